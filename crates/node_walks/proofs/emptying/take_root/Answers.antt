use Rattle.std.proofs.Common.{Option, sym, ap, subst}
use Rattle.std.specs.Prelude.{◌==◌, IfSome, IfNone}
use Rattle.life_rules.specs.declared.event.Name.{Name}
use Rattle.life_rules.specs.declared.event.Resting.TheVariants as rest
use Rattle.table_steps.specs.Claims.{root_name}
use Rattle.table_steps.specs.Swaps.{HasHome}
use Rattle.table_steps.specs.Takes.{IsTaken}
use Rattle.op_slot.specs.Puts.{IsTakenOut}
use Rattle.op_slot.proofs.Staying.{stays-on}
use Rattle.home_items.specs.contracts.item.ItemCargo.TheImpl.{ghosts}
use Rattle.home_items.specs.declared.item.Item.{Item}
use Rattle.node_walks.specs.Emptied.{IsOut, WasNotReady}
use Rattle.node_walks.proofs.Emptied.{HasTaken, took-home, out-is, is-out, lost-root}
use Rattle.node_walks.proofs.emptying.take_root.Goals as goal

pub take-requires-clause-serves : goal.take-requires-clause-serves
take-requires-clause-serves c κs = ap (λ n. n == 0) c.requires.first

pub returns-then-not-take-clause-none : goal.returns-then-not-take-clause-none
returns-then-not-take-clause-none c =
    let board = c.args.table.now in
    let taken = subst (λ (x : Name). IsTaken ghosts board.frame x rest.Loop c.take.result c.args.hand.now.me c.take.new.hand.me)
    c.root-root.ensures.name c.take.ensures.taken in
    lost-root board c.args.block c.args.hand.now.me c.take.new.hand.me (taken.1 c.if-not-take.true)

pub take_home-requires-clause-home : goal.take_home-requires-clause-home
take_home-requires-clause-home c κs =
    let board = c.args.table.now in
    let root = root_name board c.args.block.index c.args.block.generation in
    let old = c.args.hand.now.me in
    let new = c.take.new.hand.me in
    let taken = subst (λ (x : Name). IsTaken ghosts board.frame x rest.Loop c.take.result old new) c.root-root.ensures.name c.take.ensures.taken in
    let took : HasTaken board c.args.block old new = record {
      over = c.requires.over;
      within = c.requires.block;
      first = c.requires.first;
      rests = c.requires.rests;
      read = _;
      left = _;
      took = (taken.0 c.if-not-take.false).2;
    } in
    subst (λ (x : Name). HasHome board.frame.layout new x) (sym {b = root} c.root-root.ensures.name)
    (took-home board c.args.block old new took)

pub returns-clause-stays : goal.returns-clause-stays
returns-clause-stays c =
    stays-on c.args.table.now c.args.hand.now c.take.new.hand c.take_home.new.hand c.take.ensures.stays c.take_home.ensures.stays

pub returns-clause-none : goal.returns-clause-none
returns-clause-none c =
    let board = c.args.table.now in
    let old = c.args.hand.now.me in
    let new = c.take.new.hand.me in
    let taken = subst (λ (x : Name). IsTaken ghosts board.frame x rest.Loop c.take.result old new) c.root-root.ensures.name c.take.ensures.taken in
    let out = subst (λ (x : Name). IsTakenOut board.frame x c.take_home.result new c.take_home.new.hand.me) c.root-root.ensures.name
    c.take_home.ensures.taken in
    let took : HasTaken board c.args.block old new = record {
      over = c.requires.over;
      within = c.requires.block;
      first = c.requires.first;
      rests = c.requires.rests;
      read = _;
      left = _;
      took = (taken.0 c.if-not-take.false).2;
    } in
    subst (λ (o : Option Item). IfNone o (WasNotReady board c.args.block old c.take_home.new.hand.me))
    (sym
    (out-is board c.args.block old new took c.take_home.result c.take_home.new.hand.me out)) tt

pub returns-clause-out : goal.returns-clause-out
returns-clause-out c =
    let board = c.args.table.now in
    let old = c.args.hand.now.me in
    let new = c.take.new.hand.me in
    let taken = subst (λ (x : Name). IsTaken ghosts board.frame x rest.Loop c.take.result old new) c.root-root.ensures.name c.take.ensures.taken in
    let out = subst (λ (x : Name). IsTakenOut board.frame x c.take_home.result new c.take_home.new.hand.me) c.root-root.ensures.name
    c.take_home.ensures.taken in
    let took : HasTaken board c.args.block old new = record {
      over = c.requires.over;
      within = c.requires.block;
      first = c.requires.first;
      rests = c.requires.rests;
      read = _;
      left = _;
      took = (taken.0 c.if-not-take.false).2;
    } in
    subst (λ (o : Option Item). IfSome o (IsOut board c.args.block old c.take_home.new.hand.me))
    (sym (out-is board c.args.block old new took c.take_home.result c.take_home.new.hand.me out))
    (is-out board c.args.block old new took c.take_home.result c.take_home.new.hand.me out)
