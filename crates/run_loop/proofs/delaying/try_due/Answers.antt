use Rattle.std.proofs.Common.{inl, inr, length, arith, refl, ap}
use Rattle.life_rules.specs.declared.event.Resting.TheVariants as rest
use Rattle.op_slot.proofs.Staying.{stays-here}
use Rattle.exec_recv.proofs.Asiding.{aside-here}
use Rattle.node_walks.proofs.Took.{first-serves}
use Rattle.deck_relay.specs.SameDecks.{keeps-here}
use Rattle.run_loop.specs.Delayed.{MayTakeDelay}
use Rattle.run_loop.specs.Serves.{moment}
use Rattle.run_loop.proofs.Due.{name-as, tried-as}
use Rattle.run_loop.proofs.Served.{looked-here, more-none, more-one}
use Rattle.run_loop.proofs.delaying.try_due.Goals as goal

pub serve-requires-clause-serves : goal.serve-requires-clause-serves
serve-requires-clause-serves g c κs within = first-serves rest.Parked c.args.hand.now.me.0 c.requires.first

pub returns-then-serve-clause-served : goal.returns-then-serve-clause-served
returns-then-serve-clause-served g c =
    let size = c.size-nodes.ensures.size in
    let tree = rw c.site.view_is at (ap length c.tree.ensures.tree) in
    let nodes = c.requires.site.over.nodes in
    more-one g.T.Stepper.does c.args.site.now (MayTakeDelay c.args.site.now c.args.due.place c.args.due.generation)
    c.args.taken c.one_more.result (moment c.args.hand.now c.args.names.now) (moment c.serve.new.hand c.serve.new.mail) c.one_more.ensures.one
    (record {
      name = _;
      from = rest.Parked;
      may_be = (refl, name-as c.args.site.now c.args.due.place c.args.due.generation c.size-nodes.result (omega (arith, size, tree, nodes)));
      serves = c.serve.ensures.only c.if-serve.true;
    })

pub returns-then-serve-clause-tried : goal.returns-then-serve-clause-tried
returns-then-serve-clause-tried g c within =
    let size = c.size-nodes.ensures.size in
    let tree = rw c.site.view_is at (ap length c.tree.ensures.tree) in
    let nodes = c.requires.site.over.nodes in
    tried-as c.args.site.now c.args.hand.now.me c.serve.new.hand.me c.one_more.result c.args.due.place c.args.due.generation
    c.size-nodes.result (omega (arith, size, tree, nodes))
    (inr (c.one_more.ensures.some, (c.serve.ensures.served c.if-serve.true).taken))

pub returns-clause-served : goal.returns-clause-served
returns-clause-served g c =
    more-none g.T.Stepper.does c.args.site.now (MayTakeDelay c.args.site.now c.args.due.place c.args.due.generation)
    c.args.taken (moment c.args.hand.now c.args.names.now) (moment c.serve.new.hand c.serve.new.mail) (omega arith)
    (record { looks = c.serve.ensures.looks c.if-serve.false; unheard = c.serve.ensures.unheard c.if-serve.false })

pub returns-then-name-blocks-clause-served : goal.returns-then-name-blocks-clause-served
returns-then-name-blocks-clause-served g c =
    more-none g.T.Stepper.does c.args.site.now (MayTakeDelay c.args.site.now c.args.due.place c.args.due.generation)
    c.args.taken (moment c.args.hand.now c.args.names.now) (moment c.args.hand.now c.args.names.now) (omega arith)
    (looked-here (moment c.args.hand.now c.args.names.now))

pub returns-clause-tried : goal.returns-clause-tried
returns-clause-tried g c within =
    let size = c.size-nodes.ensures.size in
    let tree = rw c.site.view_is at (ap length c.tree.ensures.tree) in
    let nodes = c.requires.site.over.nodes in
    tried-as c.args.site.now c.args.hand.now.me c.serve.new.hand.me c.args.taken c.args.due.place c.args.due.generation c.size-nodes.result
    (omega (arith, size, tree, nodes)) (inl (c.serve.ensures.missed c.if-serve.false))

pub returns-then-name-blocks-clause-deck : goal.returns-then-name-blocks-clause-deck
returns-then-name-blocks-clause-deck g c = keeps-here c.args.names.now.deck

pub returns-then-name-blocks-clause-stays : goal.returns-then-name-blocks-clause-stays
returns-then-name-blocks-clause-stays g c = stays-here c.args.site.now c.args.hand.now c.requires.hand

pub returns-then-name-blocks-clause-aside : goal.returns-then-name-blocks-clause-aside
returns-then-name-blocks-clause-aside g c = aside-here c.args.hand.now.me
