-- Whatever the step of a bulk does, it ends as a step does.
use Rattle.std.proofs.Common.{◌≡◌, inl, inr, ℕ, length, Some, subst, arith}
use Rattle.std.proofs.lemmas.Bool.{cases_lt}
use Rattle.common_lemmas.proofs.Bool.{either}
use Rattle.common_lemmas.proofs.Options.{known}
use Rattle.exec_job.specs.declared.job.Job.{Job}
use Rattle.life_rules.specs.declared.event.Name.{Name}
use Rattle.plan_rules.specs.declared.node.Node.TheVariants.{Bulk}
use Rattle.plan_shape.specs.Blueprint.{Blueprint}
use Rattle.table_steps.specs.Views.{Board}
use Rattle.home_items.specs.Parcels.{Delivery}
use Rattle.exec_recv.specs.declared.next.Next.{Next}
use Rattle.exec_recv.specs.Seats.{HandSeat}
use Rattle.exec_recv.specs.Sites.{node_at, Steps}
use Rattle.step_parts.specs.Stepping.{Stepping}
use Rattle.step_parts.proofs.Started.{again-steps}
use Rattle.exec_bulk.specs.Begins.{BeginsParts}
use Rattle.exec_bulk.specs.Rows.{numbers_in}
use Rattle.exec_bulk.specs.Steps.{CutsRow, GoesOnBack, JoinsParts}
use Rattle.exec_bulk.proofs.Making.{numbers-none}

module _ (board : Board Blueprint) (t : Stepping) (next : Next) (old new : HandSeat) where
  abbrev HasStepped : Type 0
  HasStepped = Steps board t.name next t.from new

  parts-steps : (parcel : Delivery) → BeginsParts board t parcel next old new → HasStepped
  parts-steps parcel begins = either begins.answer (λ h. (begins.starts h).steps) (λ h. (begins.wants h).steps)

  cuts-steps : (parcel : Delivery) → CutsRow board t parcel next old new → HasStepped
  cuts-steps parcel cuts =
      elim (cases_lt 0 (length (numbers_in parcel.completion))) [
        | inl some ↦ parts-steps parcel (cuts.cuts some)
        | inr none ↦ (cuts.passes (numbers-none (numbers_in parcel.completion) (omega (arith, none)))).steps
      ]

module _ (board : Board Blueprint) (t : Stepping) (next : Next) (child : ℕ) (new : HandSeat) where
  pub back-steps : (old : HandSeat) → GoesOnBack board t child next old new → Steps board t.name next t.from new
  back-steps old goes =
      known goes.answer (λ none. again-steps board t child next goes.middle new (goes.again none))
      (λ parcel is. cuts-steps board t next goes.middle new parcel (goes.cuts parcel is))

  pub joins-steps : (old : HandSeat) (job : Job) → node_at board t.name ≡ Some (Bulk child job) → JoinsParts board t child next old new →
      Steps board t.name next t.from new
  joins-steps old job at joins =
      elim (cases_lt 0 (length (numbers_in joins.kept.completion))) [
        | inl some ↦ elim (joins.ends job at some) [ inl done ↦ done.steps | inr want ↦ want.completes.steps ]
        | inr none ↦ back-steps joins.middle (joins.goes_on (numbers-none (numbers_in joins.kept.completion) (omega (arith, none))))
      ]

-- seen from where the node was taken up
pub steps-up : (board : Board Blueprint) (t : Stepping) (x : Name) (old new : HandSeat) (next : Next) → t.name ≡ x → t.from ≡ old →
    Steps board t.name next t.from new → Steps board x next old new
steps-up board t x old new next name_is from_is steps =
    subst (λ (y : Name). Steps board y next old new) name_is (subst (λ (h : HandSeat). Steps board t.name next h new) from_is steps)
