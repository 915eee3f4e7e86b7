-- What is collected is allowed for the record that its operation was begun for.
use Rattle.std.proofs.Common.{◌≡◌, inl, inr, ℕ, Bool, true, false, [], ◌∷◌, refl}
use Rattle.exec_value.specs.declared.data.Datum.{Datum}
use Rattle.exec_value.specs.declared.outcome.Completion.{Completion}
use Rattle.plan_rules.specs.declared.stop.StopState.TheVariants.{Never}
use Rattle.plan_rules.specs.Seen.{seen_state}
use Rattle.plan_shape.specs.Blueprint.{Blueprint}
use Rattle.line_rules.specs.PlanTerms.{AllowsRecord}
use Rattle.line_rules.proofs.PlanLaws.{plan-covers}
use Rattle.record_loop.specs.Works.{Begun, Work, MayCompleteWork}
use Rattle.home_items.specs.Entries.{record_start}
use Rattle.node_walks.specs.declared.completing.Collected.{Collected}
use Rattle.node_walks.specs.Completes.{IsFor}
use Rattle.record_operations.specs.Runs.{WantsMemory}

-- what is allowed under the requests that an operation saw is allowed under those that were made
widened : (plan : Blueprint) (number : ℕ) (datum : Datum) (asked saw requested : Bool) (done : Completion) → (saw ≡ true → requested ≡ true) →
    AllowsRecord plan number datum (seen_state asked saw) done → AllowsRecord plan number datum (seen_state asked requested) done
widened plan number datum true saw requested done told allowed = allowed
widened plan number datum false true true done told allowed = allowed
widened plan number datum false true false done told allowed = absurd (let e = told refl in cc)
widened plan number datum false false true done told allowed = plan-covers WantsMemory plan 0 number datum Never done allowed
widened plan number datum false false false done told allowed = allowed

pub collected-may : (work : Work) (begun : Begun) (requested : Bool) (c : Collected) →
    IsFor (record_start work.plan (begun.datum ∷ []) begun.number begun.asked) requested c → (requested ≡ true → work.requested ≡ true) →
    MayCompleteWork WantsMemory work begun c.completion
unfolding AllowsRecord
collected-may work begun requested c is_for made = elim is_for.may [
  | inl none ↦ inl (none, inr (λ small. is_for.small small none))
  | inr allowed ↦
      inr
      (widened work.plan begun.number begun.datum begun.asked c.saw work.requested c.completion (λ saw. made (is_for.saw saw))
      allowed)
]
