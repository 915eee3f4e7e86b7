use Rattle.std.proofs.Common.{sym, ◌∙◌}
use Rattle.table_steps.specs.ScopeMoves.{leaves_scope}
use Rattle.count_scope.proofs.Leaving.{last-seals, left-fresh, left-others, left-last}
use Rattle.count_scope.proofs.seals.leave.Goals as goal

pub returns-then-not-is_last-clause-left : goal.returns-then-not-is_last-clause-left
returns-then-not-is_last-clause-left g c =
    left-others leaves_scope c.leave_step-word.result c.args.hand.now c.leave_step-word.new.hand c.leave_step-word.ensures.left
    (sym c.is_last.ensures ∙ c.if-not-is_last.true)

pub seal-requires-clause-seals : goal.seal-requires-clause-seals
seal-requires-clause-seals g c κs within =
    last-seals c.leave_step-word.result (sym c.is_last.ensures ∙ c.if-not-is_last.false)

pub seal-requires-clause-fresh : goal.seal-requires-clause-fresh
seal-requires-clause-fresh g c κs within =
    left-fresh leaves_scope c.leave_step-word.result c.args.hand.now c.leave_step-word.new.hand c.leave_step-word.ensures.left

pub returns-clause-left : goal.returns-clause-left
returns-clause-left g c =
    left-last leaves_scope c.leave_step-word.result c.args.hand.now c.leave_step-word.new.hand c.leave_step-word.ensures.left
    c.seal.result c.seal.new.hand.me (sym c.is_last.ensures ∙ c.if-not-is_last.false) c.seal.ensures.sealed
