use Rattle.std.proofs.Common.{◌≡◌, ◌++◌, ◌∷◌, [], ◌+◌, is_ok, ap, ◌∙◌, arith}
use Rattle.std.proofs.lemmas.Bool.{cond-true}
use Rattle.timer_wheel.specs.declared.commands.Command.TheVariants.{Add}
use Rattle.timer_wheel.proofs.RunLaws.{Run-next, turn-next, Step-places}
use Rattle.timer_wheel.proofs.commands.run.Goals as goal

pub loop-command-preserved : goal.loop-command-preserved
loop-command-preserved c =
    let kept = c.loop-command.invariant in
    let old = c.args.wheel.now in
    let mid = c.loop-command.wheel in
    let new = c.step.new.wheel in
    let i = c.loop-command.command-index in
    let commands = c.args.commands.now in
    let replies = c.loop-command.replies.items in
    let within = c.loop-command-test.true in
    let ok = c.push.ensures.succeeds (omega arith) in
    let pushed : c.push.new.self.items ≡ replies ++ c.step.result ∷ [] =
    c.push.ensures.items ∙ cond-true (is_ok c.push.result) _ _ ok in
    record {
      run = rw pushed (Run-next old mid new commands i (Add 0 0) c.step.result within c.step.ensures replies kept.run);
      places = Step-places mid _ c.step.result new c.step.ensures ∙ kept.places;
      turn = turn-next old mid new commands i (Add 0 0) c.step.result within c.step.ensures kept.turn;
      count = c.push.ensures.len ∙ cond-true (is_ok c.push.result) _ _ ok ∙ ap (λ n. n + 1) kept.count;
      room = omega arith;
    }
