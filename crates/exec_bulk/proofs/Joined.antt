-- A bulk that keeps what its child completed with: what its step comes to.
use Rattle.std.proofs.Common.{◌≡◌, ◌≢◌, inl, inr, ℕ, ◌≤◌, length, Some, sym, ap, ◌∙◌, subst, arith}
use Rattle.std.specs.Prelude.{Bool}
use Rattle.exec_job.specs.declared.job.Job.{Job}
use Rattle.plan_rules.specs.Bulks.{bulk_of, each_of, row_ending}
use Rattle.plan_rules.specs.declared.node.Node.TheVariants.{Bulk}
use Rattle.plan_shape.specs.Blueprint.{Blueprint}
use Rattle.exec_value.specs.declared.outcome.Completion.{Completion}
use Rattle.table_steps.specs.Views.{Board}
use Rattle.exec_recv.specs.declared.next.Next.{Next}
use Rattle.exec_recv.specs.Seats.{HandSeat}
use Rattle.home_items.specs.declared.item.State.TheVariants.{Kept}
use Rattle.home_items.specs.Parcels.{Delivery}
use Rattle.step_parts.specs.Stepping.{Stepping}
use Rattle.exec_bulk.specs.declared.joining.Made.{Made}
use Rattle.exec_bulk.specs.declared.joining.Made.TheVariants.{Want}
use Rattle.exec_bulk.specs.Made.{IsFrontMade}
use Rattle.exec_bulk.specs.Opens.{HasTakenUp}
use Rattle.exec_bulk.specs.Rows.{numbers_in, parts_for}
use Rattle.exec_bulk.specs.Steps.{CompletesOr, EndsAsMade, GoesOnBack, HaveAllDelivered, JoinsParts}
use Rattle.exec_bulk.proofs.Making.{row-is}
use Rattle.exec_bulk.proofs.Opened.{kept, kept-is}

module _ (board : Board Blueprint) (t : Stepping) (child : ℕ) (up : HandSeat) (has : HasTakenUp board t child Kept up) (middle : HandSeat)
    (next : Next) (new : HandSeat) where
  abbrev its : Delivery
  its = kept board t child up has

  -- without numbers it went on by its child
  pub joins-none : length (numbers_in its.completion) ≡ 0 → GoesOnBack board t child next middle new → JoinsParts board t child next up new
  joins-none none goes =
      record {
        kept = its;
        kept_is = kept-is board t child up has;
        middle = middle;
        ends = λ job at some. absurd (omega (arith, some, none));
        goes_on = λ _. goes;
      }

  same-job : (x y : ℕ) (a b : Job) → Some (Bulk x a) ≡ Some (Bulk y b) → a ≡ b
  same-job x y a b e = cc

  -- with some it completed by its parts
  pub joins-some : 1 ≤ length (numbers_in its.completion) → (made : Made) → (saw : Bool) → saw ≡ its.saw →
      IsFrontMade made has.job (numbers_in its.completion) (parts_for (numbers_in its.completion)) →
      (HaveAllDelivered board t child (numbers_in its.completion) up → made ≢ Want) → EndsAsMade board t made saw next middle new →
      JoinsParts board t child next up new
  joins-some some made saw saw_is made_is able ends =
      let numbers = numbers_in its.completion in
      record {
        kept = its;
        kept_is = kept-is board t child up has;
        middle = middle;
        ends = λ job at _.
            let here : IsFrontMade made job numbers (parts_for numbers) =
            subst (λ j. IsFrontMade made j numbers (parts_for numbers)) (same-job child child has.job job (sym has.node_is ∙ at)) made_is in
            let so = subst (λ s. CompletesOr board t (made ≢ Want) (row_ending (each_of job 0 numbers)) s next middle new) saw_is (ends job numbers here) in
            subst (λ (d : Completion). CompletesOr board t (HaveAllDelivered board t child numbers up) d its.saw next middle new)
            (sym (ap (bulk_of job) (row-is its.completion some)))
            (elim so [
              | inl done ↦ inl done
              | inr want ↦ inr (record { large = λ have stands. want.large (able have) stands; completes = want.completes })
            ]);
        goes_on = λ none. let empty : length numbers ≡ 0 = ap length none in absurd (omega (arith, some, empty));
      }
