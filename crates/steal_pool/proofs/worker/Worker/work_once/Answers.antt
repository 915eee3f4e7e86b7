use Rattle.op_slot.proofs.Staying.{stays-on}
use Rattle.exec_recv.proofs.Asiding.{aside-on}
use Rattle.deck_relay.specs.Desks.{desk-on}
use Rattle.steal_pool.proofs.Searched.{works-before}
use Rattle.steal_pool.proofs.worker.Worker.work_once.Goals as goal

pub returns-in-Some : goal.returns-in-Some
returns-in-Some g c =
    record {
      ready = record { of_table = c.take_next.ensures.stays.hand; rests = c.take_next.ensures.rests };
      same = c.take_next.ensures.stays.same;
      aside = c.take_next.ensures.aside;
      works = c.in-Some.ensures.served;
      desk = c.take_next.ensures.desk;
    }

pub returns : goal.returns
returns g c =
    let board = c.args.site.now in
    let old = c.args.self.now.hand in
    let between = c.take_next.new.hand in
    let new = c.seek.new.hand in
    let stays = stays-on board old between new c.take_next.ensures.stays c.seek.ensures.stays in
    record {
      ready = record { of_table = stays.hand; rests = c.seek.ensures.rests };
      same = stays.same;
      aside = aside-on old.me between.me new.me c.take_next.ensures.aside c.seek.ensures.aside;
      works = works-before board old.me between.me new.me g.T.Stepper.does c.seek.result c.in-None.ensures.looks
          c.seek.ensures.works;
      desk = desk-on c.args.self.now.offers.desk c.take_next.new.offers.desk c.seek.new.offers.desk c.take_next.ensures.desk c.seek.ensures.desk;
    }
