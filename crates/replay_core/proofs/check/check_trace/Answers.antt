use Rattle.std.proofs.Common.{◌≡◌, ◌+◌, ◌-◌, ◌<◌, ℕ, List, true, false, length, get_or, subst, sym, ap, ◌∙◌, below_more, arith}
use Rattle.life_rules.specs.States.{State}
use Rattle.life_rules.specs.Steps.{is_step, moved}
use Rattle.trace_text.specs.declared.entry.Entry.{Entry}
use Rattle.replay_core.specs.Traces.{is_taken, AreTaken, move_of}
use Rattle.replay_core.proofs.Along.{state_at-more, is_taken-at, AreSound-trace}
use Rattle.replay_core.proofs.check.check_trace.Goals as goal

pub loop-entry-preserved : goal.loop-entry-preserved
loop-entry-preserved c =
    let t = c.args.trace.now in
    let i = c.loop-entry.entry-index in
    let e = c.entry-item.result in
    let here = subst (λ (l : List Entry). i < length l) c.entries-entry-items.ensures c.loop-entry-test.true in
    let is = c.entry-item.is ∙ ap (λ (l : List Entry). get_or l i e) c.entries-entry-items.ensures in
    let so_far = c.loop-entry.invariant in
    let step : is_taken t i ≡ true =
    is_taken-at t i e here is
    ∙ ap (λ (s : State). is_step s (move_of e)) (sym so_far.state)
    ∙ sym c.in_ok-is_step.ensures.exact
    ∙ c.if-not-is_step.false in
    record {
      count = omega (arith, so_far.count);
      state =
          c.in_ok-is_step.ensures.after
          ∙ ap (λ (s : State). moved s (move_of e)) so_far.state
          ∙ sym (state_at-more t i e here is);
      taken = below_more _ _ so_far.taken step;
    }

pub returns-then-not-is_step-clause-verdict : goal.returns-then-not-is_step-clause-verdict
returns-then-not-is_step-clause-verdict c =
    let t = c.args.trace.now in
    let i = c.loop-entry.entry-index in
    let e = c.entry-item.result in
    let here : i < length t.entries = subst (λ (l : List Entry). i < length l) c.entries-entry-items.ensures c.loop-entry-test.true in
    let is = c.entry-item.is ∙ ap (λ (l : List Entry). get_or l i e) c.entries-entry-items.ensures in
    let so_far = c.loop-entry.invariant in
    let at : i ≡ c.loop-entry.number + 1 - 1 = omega (arith, so_far.count) in
    let no_step : is_taken t i ≡ false =
    is_taken-at t i e here is
    ∙ ap (λ (s : State). is_step s (move_of e)) (sym so_far.state)
    ∙ sym c.in_ok-is_step.ensures.exact
    ∙ c.if-not-is_step.true in
    record {
      from_one = omega arith;
      within = omega (arith, here, so_far.count);
      before = subst (AreTaken t) at so_far.taken;
      refused = subst (λ (n : ℕ). is_taken t n ≡ false) at no_step;
    }

pub returns-clause-verdict : goal.returns-clause-verdict
returns-clause-verdict c =
    let t = c.args.trace.now in
    let so_far = c.loop-entry.invariant in
    let long = ap length c.entries-entry-items.ensures in
    record {
      count = omega (arith, so_far.count, long, c.loop-entry-test.false);
      each = subst (AreTaken t) (sym so_far.count) so_far.taken;
    }

pub returns-clause-sound : goal.returns-clause-sound
returns-clause-sound c = λ n e. AreSound-trace c.args.trace.now c.opening.ensures.trace.opening
