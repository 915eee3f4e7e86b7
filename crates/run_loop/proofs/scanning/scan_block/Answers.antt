use Rattle.std.proofs.Common.{arith, ap, ◌∙◌, ◌≡◌, ℕ, ◌+◌, ◌-◌, ◌<◌, ◌≤◌, false, length}
use Rattle.op_slot.proofs.Staying.{stays-here, stays-on}
use Rattle.exec_recv.specs.Asides.{Aside}
use Rattle.exec_recv.proofs.Asiding.{aside-here, aside-on}
use Rattle.deck_relay.specs.SameDecks.{keeps-here, keeps-on}
use Rattle.run_loop.specs.Serves.{MayHelp, moment}
use Rattle.run_loop.proofs.Served.{looked-here, more-none, more-on}
use Rattle.run_loop.proofs.Turned.{passed-more, node-met}
use Rattle.std.specs.Prelude.{◌==◌}
use Rattle.std.proofs.lemmas.Bool.Decides.{nat_tests}
use Rattle.run_loop.proofs.scanning.scan_block.Goals as goal

pub loop-node-init : goal.loop-node-init
loop-node-init g c =
    record {
      stays = stays-here c.args.site.now c.args.hand.now c.requires.hand;
      rests = c.requires.rests;
      aside = aside-here c.args.hand.now.me;
      served = more-none g.T.Stepper.does c.args.site.now (MayHelp c.args.helps) c.args.taken (moment c.args.hand.now c.args.names.now)
          (moment c.args.hand.now c.args.names.now) (omega arith) (looked-here (moment c.args.hand.now c.args.names.now));
      none = λ zero. (zero, λ node below inner. absurd (omega (arith, below)));
      met = λ node below inner. absurd (omega (arith, below));
      deck = keeps-here c.args.names.now.deck;
    }

pub take_node-taken-requires-clause-first : goal.take_node-taken-requires-clause-first
take_node-taken-requires-clause-first g c κs within = ap (λ (a : Aside). a.number) c.loop-node.invariant.aside.same ∙ c.requires.first

pub loop-node-preserved : goal.loop-node-preserved
loop-node-preserved g c =
    let board = c.args.site.now in
    let before = c.loop-node.invariant in
    let old = c.args.hand.now in
    let between = c.loop-node.hand in
    let new = c.take_node-taken.new.hand in
    record {
      stays = stays-on board old between new before.stays c.take_node-taken.ensures.stays;
      rests = c.take_node-taken.ensures.rests;
      aside = aside-on old.me between.me new.me before.aside c.take_node-taken.ensures.aside;
      served = more-on g.T.Stepper.does board (MayHelp c.args.helps) c.args.taken c.loop-node.taken
          c.take_node-taken.result (moment old c.args.names.now) (moment between c.loop-node.names) (moment new c.take_node-taken.new.names)
          before.served c.take_node-taken.ensures.served;
      none = λ zero.
          let here = c.take_node-taken.ensures.none zero in
          let earlier = before.none here.0 in (
            earlier.0,
            passed-more board c.args.helps c.args.block old.me between.me new.me c.loop-node.node before.aside
                c.take_node-taken.ensures.aside earlier.1 here.1,
          );
      met = node-met board c.args.helps old.me between.me new.me c.args.block c.loop-node.node before.aside c.take_node-taken.ensures.aside
          before.met c.take_node-taken.ensures.met;
      deck = keeps-on c.args.names.now.deck c.loop-node.names.deck c.take_node-taken.new.names.deck before.deck c.take_node-taken.ensures.deck;
    }

-- a node before the root
inner-below : (size node past : ℕ) → size - 1 ≤ past → node < size → (node + 1 == size) ≡ false → node < past
inner-below size node past end below inner = grind (arith, nat_tests)

pub returns-clause-none : goal.returns-clause-none
returns-clause-none g c zero =
    let tree = c.args.site.now.frame.tree in
    let all = c.loop-node.invariant.none zero in
    let size : c.size-size.result ≡ length tree =
    c.size-size.ensures.size ∙ ap length (rw c.site.view_is at c.tree.ensures.tree) in
    let end = rw size at c.loop-node-test.false in
    (all.0, λ node below inner. all.1 node (inner-below (length tree) node c.loop-node.node end below inner) inner)

pub returns-clause-met : goal.returns-clause-met
returns-clause-met g c node below inner =
    let tree = c.args.site.now.frame.tree in
    let size : c.size-size.result ≡ length tree =
    c.size-size.ensures.size ∙ ap length (rw c.site.view_is at c.tree.ensures.tree) in
    let end = rw size at c.loop-node-test.false in
    c.loop-node.invariant.met node (inner-below (length tree) node c.loop-node.node end below inner) inner
