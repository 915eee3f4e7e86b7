use Rattle.std.proofs.Common.{◌≡◌, length, arith, refl, ap, ◌∙◌}
use Rattle.life_rules.specs.declared.event.Resting.TheVariants.{Pool}
use Rattle.op_slot.proofs.Staying.{stays-here, stays-on}
use Rattle.exec_recv.proofs.Asiding.{aside-on}
use Rattle.node_walks.proofs.Read.{looks-here, looks-on}
use Rattle.node_walks.proofs.Took.{serves-before}
use Rattle.deck_relay.specs.Desks.{desk-here, desk-on}
use Rattle.steal_pool.proofs.Searched.{nodes-more, nodes-all}
use Rattle.steal_pool.proofs.searching.search_block.Goals as goal

pub loop-node-init : goal.loop-node-init
loop-node-init g c =
    record {
      stays = stays-here c.args.site.now c.args.hand.now c.requires.hand;
      rests = c.requires.rests;
      looks = looks-here c.args.hand.now.me;
      none = λ not. (not, λ node below inner. absurd (omega (arith, below)));
      still = λ not. refl;
      desk = desk-here c.args.offers.now.desk;
    }

pub loop-node-preserved : goal.loop-node-preserved
loop-node-preserved g c =
    let board = c.args.site.now in
    let before = c.loop-node.invariant in
    let old = c.args.hand.now in
    let between = c.loop-node.hand in
    let new = c.look_at.new.hand in
    record {
      stays = stays-on board old between new before.stays c.look_at.ensures.stays;
      rests = c.look_at.ensures.rests;
      looks = looks-on old.me between.me new.me before.looks c.in-None.ensures.looks;
      none = λ not.
          let here = c.in-None.ensures.none not in
          let earlier = before.none here.0 in (
            earlier.0,
            nodes-more board old.me between.me new.me c.args.block c.loop-node.node before.looks.aside c.look_at.ensures.aside earlier.1 here.1,
          );
      still = λ not. c.look_at.ensures.still not ∙ before.still not;
      desk = desk-on c.args.offers.now.desk c.loop-node.offers.desk c.look_at.new.offers.desk before.desk c.look_at.ensures.desk;
    }

pub returns-in-Some : goal.returns-in-Some
returns-in-Some g c =
    let board = c.args.site.now in
    let before = c.loop-node.invariant in
    let old = c.args.hand.now in
    let between = c.loop-node.hand in
    let new = c.look_at.new.hand in
    record {
      stays = stays-on board old between new before.stays c.look_at.ensures.stays;
      rests = c.look_at.ensures.rests;
      aside = aside-on old.me between.me new.me before.looks.aside c.look_at.ensures.aside;
      served = serves-before g.T.Stepper.does board Pool c.in-Some.name old.me between.me new.me before.looks.aside
          c.in-Some.ensures.served;
      none = tt;
      looks = tt;
      still = λ not. c.look_at.ensures.still not ∙ before.still not;
      desk = desk-on c.args.offers.now.desk c.loop-node.offers.desk c.look_at.new.offers.desk before.desk c.look_at.ensures.desk;
    }

pub returns : goal.returns
returns g c =
    let board = c.args.site.now in
    let last = c.loop-node.invariant in
    let size : c.size-size.result ≡ length board.frame.tree = rw c.site.view_is at (c.size-size.ensures.size ∙ ap length c.tree.ensures.tree) in
    let past = c.loop-node-test.false in
    record {
      stays = last.stays;
      rests = last.rests;
      aside = last.looks.aside;
      served = tt;
      looks = last.looks;
      none = λ not.
          let all = last.none not in (
            all.0,
            nodes-all board c.args.block c.loop-node.node c.args.hand.now.me c.loop-node.hand.me (omega (arith, size, past)) all.1,
          );
      still = last.still;
      desk = last.desk;
    }
