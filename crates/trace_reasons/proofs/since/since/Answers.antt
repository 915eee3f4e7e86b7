use Rattle.std.proofs.Common.{◌≡◌, ◌<◌, ◌≤◌, ℕ, ◌+◌, ◌-◌, length, sym, subst, arith}
use Rattle.std.proofs.lemmas.Bool.{both_ways}
use Rattle.life_rules.specs.States.{State}
use Rattle.replay_core.specs.Traces.{state_at}
use Rattle.step_reasons.specs.So.{IsSo}
use Rattle.trace_reasons.proofs.Along.{state-next}
use Rattle.trace_reasons.proofs.Lasting.{holds-more, holds-none, before-more, since-is}
use Rattle.trace_reasons.proofs.since.since.Goals as goal
use Rattle.trace_reasons.proofs.since.since.Goals.{then-not-is_so, else-not-is_so}

pub loop-index-preserved : goal.loop-index-preserved
loop-index-preserved c =
    let t = c.args.trace.now in
    let fact = c.args.fact.now in
    let i = c.loop-index.index in
    let so_far = c.loop-index.invariant in
    let here : i < length t.entries = omega (arith, c.requires.within) in
    let next = state-next t _ i _ _ _ c.entries-entries.ensures here c.index-entries-index.is so_far.state c.in_ok-advance.ensures in
    elim c.if-not-is_so.branch [
      | then-not-is_so w ↦
          let start : c.if-not-is_so.since ≡ i + 1 = w.since-is in
          let not : ¬ IsSo (state_at t i) fact =
          λ is. both_ways c.is_so.result w.if-not-is_so.true (c.is_so.ensures.1 (subst (λ (u : State). IsSo u fact) (sym so_far.state) is)) in
          record {
            state = next;
            within = omega (arith, start);
            holds = λ k from below. holds-none t fact i k (omega (arith, from, start)) below;
            before = λ l. subst (λ (j : ℕ). ¬ IsSo (state_at t (j - 1)) fact) (sym start) (before-more t fact i not (omega arith));
          }
      | else-not-is_so w ↦
          let same : c.if-not-is_so.since ≡ c.loop-index.since = w.since-is in
          let is : IsSo (state_at t i) fact = subst (λ (u : State). IsSo u fact) so_far.state (c.is_so.ensures.0 w.if-not-is_so.false) in
          record {
            state = next;
            within = omega (arith, same, so_far.within);
            holds = λ k from below. holds-more t fact c.loop-index.since i so_far.holds is k (omega (arith, from, same)) below;
            before = λ l. subst (λ (j : ℕ). ¬ IsSo (state_at t (j - 1)) fact) (sym same) (so_far.before (omega (arith, l, same)));
          }
    ]

pub returns : goal.returns
returns c =
    let t = c.args.trace.now in
    let fact = c.args.fact.now in
    let so_far = c.loop-index.invariant in
    let all : c.args.count ≤ c.loop-index.index = omega arith in
    let most : c.loop-index.index ≤ c.args.count = omega arith in
    since-is t fact c.args.count c.loop-index.since (omega (arith, so_far.within, most))
    (λ i from below. so_far.holds i from (omega (arith, below, all))) c.requires.so so_far.before
