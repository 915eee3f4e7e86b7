use Rattle.std.proofs.Common.{sym, subst}
use Rattle.life_rules.specs.declared.event.Name.{Name}
use Rattle.table_steps.specs.Claims.{root_name}
use Rattle.op_slot.proofs.Staying.{stays-on}
use Rattle.node_walks.specs.Emptied.{HasEmptyRoot, IsSettledRoot, SettlesRoot}
use Rattle.node_walks.proofs.Emptied.{settled-out, emptied}
use Rattle.node_walks.proofs.emptying.empty_root.Goals as goal

pub settle_root-requires-clause-empty : goal.settle_root-requires-clause-empty
settle_root-requires-clause-empty g c =
    let board = c.args.table.now in
    let root = root_name board c.args.block.index c.args.block.generation in
    subst (λ (x : Name). HasEmptyRoot board x c.take_root.new.hand.me) (sym {b = root} c.root.ensures.name) c.in_ok-item.ensures.out.empty

pub give_back-requires-clause-settled : goal.give_back-requires-clause-settled
give_back-requires-clause-settled g c =
    subst (λ (x : Name). IsSettledRoot c.args.table.now x c.settle_root.new.hand.me) c.root.ensures.name c.settle_root.ensures.settles.is

pub returns-clause-stays : goal.returns-clause-stays
returns-clause-stays g c =
    let board = c.args.table.now in
    let old = c.args.hand.now in
    stays-on board old c.settle_root.new.hand c.give_back.new.hand
    (stays-on board old c.take_root.new.hand c.settle_root.new.hand c.take_root.ensures.stays c.settle_root.ensures.stays)
    c.give_back.ensures.stays

pub returns-clause-emptied : goal.returns-clause-emptied
returns-clause-emptied g c =
    let board = c.args.table.now in
    let old = c.args.hand.now.me in
    let out = c.take_root.new.hand.me in
    let settled = c.settle_root.new.hand.me in
    let settles = subst (λ (x : Name). SettlesRoot board x out settled) c.root.ensures.name c.settle_root.ensures.settles in
    emptied board c.args.block old settled c.give_back.new.hand.me c.in_ok-item.item c.requires.rests
    (settled-out board c.args.block old out settled c.in_ok-item.item c.in_ok-item.ensures.out settles) c.give_back.ensures.given
