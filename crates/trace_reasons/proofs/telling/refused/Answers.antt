use Rattle.std.proofs.Common.{◌≡◌, ◌<◌, ◌≤◌, ◌-◌, ℕ, List, length, get_or, false, Option, Some, sym, ap, ◌∙◌, subst, arith}
use Rattle.std.specs.Prelude.{slice_get}
use Rattle.std.proofs.lemmas.Option.{slice_get-get_or}
use Rattle.life_rules.specs.States.{State}
use Rattle.replay_core.specs.Traces.{state_at}
use Rattle.replay_core.proofs.Along.{AreSound-trace}
use Rattle.step_reasons.specs.declared.fact.Fact.{Fact}
use Rattle.step_reasons.specs.Reasons.{reason_of}
use Rattle.step_reasons.proofs.Told.{reasons-so}
use Rattle.trace_reasons.specs.Explaining.{Explains}
use Rattle.trace_reasons.specs.Explaining.Explains.{refused as is_refused}
use Rattle.trace_reasons.specs.Since.{IsReason}
use Rattle.trace_reasons.proofs.Entries.{reason-there}
use Rattle.trace_text.specs.declared.entry.Entry.{Entry}
use Rattle.trace_text.specs.Values.{TraceValue}
use Rattle.trace_reasons.proofs.telling.refused.Goals as goal

-- the entry stands there
there : (t : TraceValue) (entries : List Entry) (k : ℕ) (e : Entry) → entries ≡ t.entries → k < length t.entries → e ≡ get_or entries k e → slice_get t.entries k ≡ Some e
there t entries k e same within is =
    slice_get-get_or t.entries k e within ∙ ap (λ (x : Entry). Some x) (sym (is ∙ ap (λ (l : List Entry). get_or l k e) same))

pub unreachable-requires : goal.unreachable-requires
unreachable-requires c =
    let t = c.args.trace.now in
    let k = c.args.number - 1 in
    let within : k < length t.entries = omega (arith, c.requires.from_one, c.requires.within) in
    let entry = c.index-entries-count.result in
    let at = there t _ k entry c.entries.ensures within c.index-entries-count.is in
    reason-there t k entry _ c.requires.refused at c.in_ok-state.ensures (sym c.reason_of.ensures ∙ c.in-None.is)

-- what keeps its hand from it, in the state in which it is tried
reason-at : (t : TraceValue) (k : ℕ) (e : Entry) (s : State) (r : Option Fact) (fact : Fact) → s ≡ state_at t k → r ≡ reason_of s e.hand e.event → r ≡ Some fact
    → reason_of (state_at t k) e.hand e.event ≡ Some fact
reason-at t k e s r fact is found some = ap (λ (u : State). reason_of u e.hand e.event) (sym is) ∙ sym found ∙ some

pub since-requires-clause-within : goal.since-requires-clause-within
since-requires-clause-within c = omega (arith, c.requires.from_one, c.requires.within)

pub since-requires-clause-so : goal.since-requires-clause-so
since-requires-clause-so c =
    let t = c.args.trace.now in
    let k = c.args.number - 1 in
    let e = c.index-entries-count.result in
    let within : k ≤ length t.entries = omega (arith, c.requires.within) in
    let reason = reason-at t k e _ _ c.in-Some.fact c.in_ok-state.ensures c.reason_of.ensures c.in-Some.is in
    reasons-so (state_at t k) e.hand e.event c.in-Some.fact (AreSound-trace t c.opening-opening.ensures.trace.opening k within) reason

pub told-requires : goal.told-requires
told-requires c =
    let t = c.args.trace.now in
    let k = c.args.number - 1 in
    let e = c.index-entries-count.result in
    let within : k < length t.entries = omega (arith, c.requires.from_one, c.requires.within) in
    record {
      entry_is = there t _ k e c.entries.ensures within c.index-entries-count.is;
      reason = reason-at t k e _ _ c.in-Some.fact c.in_ok-state.ensures c.reason_of.ensures c.in-Some.is;
      since = c.in_ok-since-in-Some.ensures;
    }

pub returns : goal.returns
returns c =
    let t = c.args.trace.now in
    let k = c.args.number - 1 in
    let e = c.index-entries-count.result in
    let fact = c.in-Some.fact in
    let within : k < length t.entries = omega (arith, c.requires.from_one, c.requires.within) in
    let why : IsReason t c.args.number e fact c.in_ok-since-in-Some.since = record {
      entry_is = there t _ k e c.entries.ensures within c.index-entries-count.is;
      reason = reason-at t k e _ _ fact c.in_ok-state.ensures c.reason_of.ensures c.in-Some.is;
      since = c.in_ok-since-in-Some.ensures;
    } in
    subst (λ (l : List ℕ). Explains t false l) (sym c.in_ok-text-in-Some.ensures)
    (is_refused c.args.number e fact c.in_ok-since-in-Some.since c.requires why)
