use Rattle.std.proofs.Common.{sym, subst}
use Rattle.life_rules.specs.declared.event.Name.{Name}
use Rattle.life_rules.specs.declared.words.ControlWord.TheVariants.{Busy, Done}
use Rattle.table_steps.specs.Claims.{root_name}
use Rattle.table_steps.specs.Finishes.{CanFinish, FinishesAt}
use Rattle.table_steps.specs.Lefts.{LeavesControl}
use Rattle.table_steps.specs.Views.{aimed}
use Rattle.op_slot.proofs.Staying.{stays-on}
use Rattle.home_items.specs.contracts.item.ItemCargo.TheImpl.{ghosts}
use Rattle.node_walks.proofs.Emptied.{can-finish, has-finished, can-release, is-given-back}
use Rattle.node_walks.proofs.emptying.give_back.Goals as goal

pub finish-requires-clause-needs : goal.finish-requires-clause-needs
finish-requires-clause-needs g c κs =
    let board = c.args.table.now in
    let root = root_name board c.args.block.index c.args.block.generation in
    let me = c.args.hand.now.me in
    subst (λ (x : Name). CanFinish ghosts board.frame me x) (sym {b = root} c.root-root.ensures.name)
    (can-finish board root me c.requires.settled)

pub release-requires-clause-needs : goal.release-requires-clause-needs
release-requires-clause-needs g c κs =
    let board = c.args.table.now in
    let root = root_name board c.args.block.index c.args.block.generation in
    let m = c.args.hand.now.me in
    let ended = c.finish.new.hand.me in
    let finished = subst (λ (x : Name). LeavesControl (aimed board.frame x) (Busy 0) Done (FinishesAt ghosts (aimed board.frame x)) m ended)
    {y = root} c.root-root.ensures.name c.finish.ensures.finished in
    can-release board root m ended (has-finished board root m ended c.requires.settled finished)

pub returns-clause-stays : goal.returns-clause-stays
returns-clause-stays g c =
    stays-on c.args.table.now c.args.hand.now c.finish.new.hand c.release.new.hand c.finish.ensures.stays c.release.ensures.stays

pub returns-clause-given : goal.returns-clause-given
returns-clause-given g c =
    let board = c.args.table.now in
    let root = root_name board c.args.block.index c.args.block.generation in
    let m = c.args.hand.now.me in
    let ended = c.finish.new.hand.me in
    let finished = subst (λ (x : Name). LeavesControl (aimed board.frame x) (Busy 0) Done (FinishesAt ghosts (aimed board.frame x)) m ended)
    {y = root} c.root-root.ensures.name c.finish.ensures.finished in
    is-given-back board c.args.block m ended (has-finished board root m ended c.requires.settled finished) c.release.new.hand.me _ _
    c.release.ensures.released.did
