use Rattle.std.proofs.Common.{arith}
use Rattle.life_rules.specs.declared.event.Resting.TheVariants.{Pool}
use Rattle.op_slot.proofs.Staying.{stays-on}
use Rattle.exec_recv.proofs.Asiding.{aside-on}
use Rattle.node_walks.proofs.Read.{looks-on}
use Rattle.node_walks.proofs.Took.{serves-before}
use Rattle.deck_relay.specs.Desks.{desk-on}
use Rattle.steal_pool.proofs.Searched.{works-before}
use Rattle.steal_pool.proofs.working.seek.Goals as goal

pub returns-in-Some : goal.returns-in-Some
returns-in-Some g c =
    record {
      stays = c.search.ensures.stays;
      rests = c.search.ensures.rests;
      aside = c.search.ensures.aside;
      most = omega arith;
      works = c.in-Some.ensures.served;
      desk = c.search.ensures.desk;
    }

pub returns-then-not-found : goal.returns-then-not-found
returns-then-not-found g c =
    record {
      stays = c.search.ensures.stays;
      rests = c.search.ensures.rests;
      aside = c.search.ensures.aside;
      most = omega arith;
      works = record { idle = (c.in-None.ensures.none c.if-not-found.true).1; looks = c.in-None.ensures.looks };
      desk = c.search.ensures.desk;
    }

pub returns-in-Some-take_next : goal.returns-in-Some-take_next
returns-in-Some-take_next g c =
    let board = c.args.site.now in
    let old = c.args.hand.now in
    let between = c.search.new.hand in
    let new = c.take_next.new.hand in
    record {
      stays = stays-on board old between new c.search.ensures.stays c.take_next.ensures.stays;
      rests = c.take_next.ensures.rests;
      aside = aside-on old.me between.me new.me c.search.ensures.aside c.take_next.ensures.aside;
      most = c.take_next.ensures.most;
      works = serves-before g.T.Stepper.does board Pool c.in-Some-take_next.name old.me between.me new.me
          c.search.ensures.aside c.in-Some-take_next.ensures.served;
      desk = desk-on c.args.offers.now.desk c.search.new.offers.desk c.take_next.new.offers.desk c.search.ensures.desk c.take_next.ensures.desk;
    }

pub returns : goal.returns
returns g c =
    let board = c.args.site.now in
    let old = c.args.hand.now in
    let between = c.take_next.new.hand in
    let new = c.take_any.new.hand in
    let looks = looks-on old.me c.search.new.hand.me between.me c.in-None.ensures.looks c.in-None-take_next.ensures.looks in
    record {
      stays = stays-on board old between new
          (stays-on board old c.search.new.hand between c.search.ensures.stays c.take_next.ensures.stays) c.take_any.ensures.stays;
      rests = c.take_any.ensures.rests;
      aside = aside-on old.me between.me new.me looks.aside c.take_any.ensures.aside;
      most = c.take_next.ensures.most;
      works = works-before board old.me between.me new.me g.T.Stepper.does c.take_any.result looks
          c.take_any.ensures.works;
      desk = desk-on c.args.offers.now.desk c.take_next.new.offers.desk c.take_any.new.offers.desk
          (desk-on c.args.offers.now.desk c.search.new.offers.desk c.take_next.new.offers.desk c.search.ensures.desk c.take_next.ensures.desk)
          c.take_any.ensures.desk;
    }
