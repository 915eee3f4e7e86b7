use Rattle.std.proofs.Common.{ap}
use Rattle.node_tree.specs.Tree.{is_child}
use Rattle.table_use.specs.Uses.{use_tree}
use Rattle.table_use.proofs.Waiting.{owed-kid}
use Rattle.table_use.proofs.Steps.{on}
use Rattle.table_use.proofs.Reasons.{passed, node-start, start-within, start-at}
use Rattle.table_use.proofs.growing.grows.Goals as goal

pub hears-requires-clause-holds : goal.hears-requires-clause-holds
hears-requires-clause-holds c = (c.args.env, c.opens.ensures.holds)

pub awaits_one-requires-clause-child : goal.awaits_one-requires-clause-child
awaits_one-requires-clause-child c = ap (λ p. is_child use_tree p 1) c.requires.branch

pub awaits_one-requires-clause-holds : goal.awaits_one-requires-clause-holds
awaits_one-requires-clause-holds c = c.in_ok-hears.ensures.holds c.args.env c.opens.ensures.holds

pub opens-requires-2-clause-owes : goal.opens-requires-2-clause-owes
opens-requires-2-clause-owes c =
    owed-kid c.args.table.now c.args.branch 1 c.args.env c.awaits_one.new.hand.me c.beside-twig.result c.beside-twig.ensures
    c.in_ok-awaits_one.ensures.owes

pub hears-requires-2-clause-holds : goal.hears-requires-2-clause-holds
hears-requires-2-clause-holds c = (_, c.opens-2.ensures.holds)

pub parks-requires-clause-holds : goal.parks-requires-clause-holds
parks-requires-clause-holds c = (_, c.in_ok-hears-2.ensures.holds _ c.opens-2.ensures.holds)

pub returns-in_err-hears-clause-fault : goal.returns-in_err-hears-clause-fault
returns-in_err-hears-clause-fault c =
    passed c.from_residual.result _ _ c.from_residual.ensures.1
    (start-within c.args.table.now c.args.hand.now.me c.opens.new.hand.me c.hears.new.hand.me c.opens.ensures.steps c.args.branch _
    c.in_err-hears.ensures.fault)

pub returns-in_err-awaits_one-clause-fault : goal.returns-in_err-awaits_one-clause-fault
returns-in_err-awaits_one-clause-fault c =
    passed c.from_residual-in_err-awaits_one.result _ _ c.from_residual-in_err-awaits_one.ensures.1
    (start-within c.args.table.now c.args.hand.now.me c.hears.new.hand.me c.awaits_one.new.hand.me
    (on c.args.hand.now.me c.opens.new.hand.me c.hears.new.hand.me c.opens.ensures.steps c.in_ok-hears.ensures.steps) c.args.branch _
    (node-start c.args.table.now c.hears.new.hand.me c.awaits_one.new.hand.me c.args.branch _ c.in_err-awaits_one.ensures.fault))

pub returns-in_err-hears-2-clause-fault : goal.returns-in_err-hears-2-clause-fault
returns-in_err-hears-2-clause-fault c =
    passed c.from_residual-in_err-hears-2.result _ _ c.from_residual-in_err-hears-2.ensures.1
    (start-within c.args.table.now c.args.hand.now.me c.opens-2.new.hand.me c.hears-2.new.hand.me
    (on c.args.hand.now.me c.opens.new.hand.me c.opens-2.new.hand.me c.opens.ensures.steps
    (on c.opens.new.hand.me c.hears.new.hand.me c.opens-2.new.hand.me c.in_ok-hears.ensures.steps
    (on c.hears.new.hand.me c.awaits_one.new.hand.me c.opens-2.new.hand.me c.in_ok-awaits_one.ensures.steps c.opens-2.ensures.steps)))
    c.args.branch _
    (start-at c.args.table.now c.opens-2.new.hand.me c.hears-2.new.hand.me c.args.branch c.beside-twig.result 1 c.beside-twig.ensures _
    c.in_err-hears-2.ensures.fault))

pub returns-clause-steps : goal.returns-clause-steps
returns-clause-steps c =
    on c.args.hand.now.me c.opens.new.hand.me c.parks.new.hand.me c.opens.ensures.steps
    (on c.opens.new.hand.me c.hears.new.hand.me c.parks.new.hand.me c.in_ok-hears.ensures.steps
    (on c.hears.new.hand.me c.awaits_one.new.hand.me c.parks.new.hand.me c.in_ok-awaits_one.ensures.steps
    (on c.awaits_one.new.hand.me c.opens-2.new.hand.me c.parks.new.hand.me c.opens-2.ensures.steps
    (on c.opens-2.new.hand.me c.hears-2.new.hand.me c.parks.new.hand.me c.in_ok-hears-2.ensures.steps c.parks.ensures.steps))))
