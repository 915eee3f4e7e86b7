-- What is said of an entry that is refused.
use Rattle.std.proofs.Common.{◌≡◌, ℕ, true, false, Option, Some, None, sym, ap, ◌∙◌}
use Rattle.std.specs.Prelude.{slice_get}
use Rattle.std.specs.Option.{option_map_or}
use Rattle.std.proofs.lemmas.Bool.{both_ways}
use Rattle.life_rules.specs.States.{State}
use Rattle.life_rules.specs.Steps.{is_step}
use Rattle.replay_core.specs.Traces.{state_at, is_taken, move_of}
use Rattle.step_reasons.specs.Reasons.{reason_of}
use Rattle.step_reasons.proofs.Complete.{refused-steps}
use Rattle.trace_text.specs.declared.entry.Entry.{Entry}
use Rattle.trace_text.specs.Values.{TraceValue}

-- a refused entry has a reason
pub reason-there : (t : TraceValue) (k : ℕ) (e : Entry) (s : State) → is_taken t k ≡ false → slice_get t.entries k ≡ Some e → s ≡ state_at t k
    → reason_of s e.hand e.event ≡ None → ⊥
reason-there t k e s refused at is none =
    let none_there : reason_of (state_at t k) e.hand e.event ≡ None = ap (λ (u : State). reason_of u e.hand e.event) (sym is) ∙ none in
    let step : is_step (state_at t k) (move_of e) ≡ true = (refused-steps (state_at t k) e.hand e.event).0 none_there in
    both_ways (is_taken t k) refused (ap (λ (o : Option Entry). option_map_or (λ x. is_step (state_at t k) (move_of x)) o false) at ∙ step)
