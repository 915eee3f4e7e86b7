use Rattle.std.proofs.Common.{arith}
use Rattle.life_rules.specs.declared.event.Resting.TheVariants.{Pool}
use Rattle.op_slot.proofs.Staying.{stays-here, stays-on}
use Rattle.exec_recv.proofs.Asiding.{aside-on}
use Rattle.node_walks.proofs.Read.{looks-here, looks-on}
use Rattle.node_walks.proofs.Took.{serves-before}
use Rattle.deck_relay.specs.Desks.{desk-here, desk-on}
use Rattle.steal_pool.proofs.taking.take_next.Goals as goal

pub asked-init : goal.asked-init
asked-init g c =
    record {
      stays = stays-here c.args.site.now c.args.hand.now c.requires.hand;
      rests = c.requires.rests;
      looks = looks-here c.args.hand.now.me;
      most = omega arith;
      desk = desk-here c.args.offers.now.desk;
    }

pub asked-preserved : goal.asked-preserved
asked-preserved g c =
    let before = c.asked.invariant in
    let old = c.args.hand.now in
    let between = c.asked.hand in
    let new = c.serve_name.new.hand in
    let most = before.most in
    let fewer = c.ask.ensures.most in
    record {
      stays = stays-on c.args.site.now old between new before.stays c.serve_name.ensures.stays;
      rests = c.serve_name.ensures.rests;
      looks = looks-on old.me between.me new.me before.looks (c.serve_name.ensures.looks c.if-serve_name.false);
      most = omega (arith, most, fewer);
      desk = desk-on c.args.offers.now.desk c.asked.offers.desk c.serve_name.new.offers.desk before.desk
          (desk-on c.asked.offers.desk c.ask.new.offers.desk c.serve_name.new.offers.desk c.ask.ensures.desk
          (desk-on c.ask.new.offers.desk c.get_up.new.self.desk c.serve_name.new.offers.desk c.get_up.ensures c.serve_name.ensures.desk));
    }

pub returns-then-serve_name : goal.returns-then-serve_name
returns-then-serve_name g c =
    let board = c.args.site.now in
    let before = c.asked.invariant in
    let old = c.args.hand.now in
    let between = c.asked.hand in
    let new = c.serve_name.new.hand in
    let most = before.most in
    let fewer = c.ask.ensures.most in
    record {
      stays = stays-on board old between new before.stays c.serve_name.ensures.stays;
      rests = c.serve_name.ensures.rests;
      aside = aside-on old.me between.me new.me before.looks.aside c.serve_name.ensures.aside;
      most = omega (arith, most, fewer);
      served = serves-before g.T.Stepper.does board Pool c.in-Some.name old.me between.me new.me before.looks.aside
          (c.serve_name.ensures.served c.if-serve_name.true);
      looks = tt;
      desk = desk-on c.args.offers.now.desk c.asked.offers.desk c.serve_name.new.offers.desk before.desk
          (desk-on c.asked.offers.desk c.ask.new.offers.desk c.serve_name.new.offers.desk c.ask.ensures.desk
          (desk-on c.ask.new.offers.desk c.get_up.new.self.desk c.serve_name.new.offers.desk c.get_up.ensures c.serve_name.ensures.desk));
    }

pub returns : goal.returns
returns g c =
    let last = c.asked.invariant in
    let most = last.most in
    let fewer = c.ask.ensures.most in
    record {
      stays = last.stays;
      rests = last.rests;
      aside = last.looks.aside;
      most = omega (arith, most, fewer);
      served = tt;
      looks = last.looks;
      desk = desk-on c.args.offers.now.desk c.asked.offers.desk c.ask.new.offers.desk last.desk c.ask.ensures.desk;
    }
