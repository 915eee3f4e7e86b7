use Rattle.std.proofs.Common.{rules}
use Rattle.count_scope.proofs.Associating.{refused-leaves, refused-associates, kept-starts}
use Rattle.count_scope.proofs.members.associate.Goals as goal

pub leave-requires-clause-leaves : goal.leave-requires-clause-leaves
leave-requires-clause-leaves g c κs within =
    refused-leaves c.args.table.now c.enter_step-word.result c.args.hand.now c.enter_step-word.new.hand
    c.enter_step-word.ensures.entered c.refusal.ensures c.most.ensures c.in-Some.cause c.in-Some.is

pub mark_used_step-requires-clause-making : goal.mark_used_step-requires-clause-making
mark_used_step-requires-clause-making g c κs within =
    kept-starts c.args.table.now c.enter_step-word.result c.args.hand.now c.enter_step-word.new.hand
    c.enter_step-word.ensures.entered c.refusal.ensures c.most.ensures c.in_default.is c.if-word.false

pub returns-in-Some-clause-associated : goal.returns-in-Some-clause-associated
returns-in-Some-clause-associated g c =
    refused-associates c.args.table.now c.enter_step-word.result c.args.hand.now c.enter_step-word.new.hand
    c.enter_step-word.ensures.entered c.refusal.ensures c.most.ensures c.in-Some.cause
    c.leave.new.hand.me c.in-Some.is c.leave.ensures.left

pub returns-then-word-clause-associated : goal.returns-then-word-clause-associated
returns-then-word-clause-associated g c = search rules

pub returns-then-word-clause-counted : goal.returns-then-word-clause-counted
returns-then-word-clause-counted g c = search rules
