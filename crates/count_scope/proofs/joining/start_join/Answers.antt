use Rattle.std.proofs.Common.{sym, ◌∙◌}
use Rattle.count_scope.proofs.Starting.{join-fresh, join-seals, starts-settled, starts-sealed}
use Rattle.count_scope.proofs.joining.start_join.Goals as goal

pub returns-then-is_settled-clause-starts : goal.returns-then-is_settled-clause-starts
returns-then-is_settled-clause-starts g c =
    starts-settled c.join_step-read.result c.args.hand.now c.join_step-read.new.hand c.join_step-read.ensures.joins
    c.start_of.result (sym c.is_settled.ensures ∙ c.if-is_settled.true) c.start_of.ensures

pub seal-requires-clause-seals : goal.seal-requires-clause-seals
seal-requires-clause-seals g c κs within =
    join-seals c.join_step-read.result c.args.hand.now c.join_step-read.new.hand c.join_step-read.ensures.joins
    (sym c.is_settled.ensures ∙ c.if-is_settled.false)

pub seal-requires-clause-fresh : goal.seal-requires-clause-fresh
seal-requires-clause-fresh g c κs within =
    join-fresh c.join_step-read.result c.args.hand.now c.join_step-read.new.hand c.join_step-read.ensures.joins

pub returns-clause-starts : goal.returns-clause-starts
returns-clause-starts g c =
    starts-sealed c.join_step-read.result c.args.hand.now c.join_step-read.new.hand c.join_step-read.ensures.joins
    c.start_after.result c.seal.result c.seal.new.hand.me (sym c.is_settled.ensures ∙ c.if-is_settled.false) c.seal.ensures.sealed c.start_after.ensures
