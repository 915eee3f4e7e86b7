use Rattle.deck_relay.specs.Desks.{desk-on}
use Rattle.steal_pool.proofs.Kept.{keeps-same}
use Rattle.steal_pool.proofs.worker.Worker.go_round.Goals as goal

pub returns-in-Some : goal.returns-in-Some
returns-in-Some g c =
    record {
      ready = record { of_table = c.take_next.ensures.stays.hand; rests = c.take_next.ensures.rests };
      same = c.take_next.ensures.stays.same;
      aside = c.take_next.ensures.aside;
      ended = tt;
      desk = desk-on c.args.self.now.offers.desk c.begin.new.self.desk c.take_next.new.offers.desk
          (keeps-same c.args.self.now.offers.desk c.begin.new.self.desk c.begin.ensures)
          c.take_next.ensures.desk;
    }

pub returns-in-None : goal.returns-in-None
returns-in-None g c =
    record {
      ready = record { of_table = c.take_next.ensures.stays.hand; rests = c.take_next.ensures.rests };
      same = c.take_next.ensures.stays.same;
      aside = c.take_next.ensures.aside;
      ended = tt;
      desk = desk-on c.args.self.now.offers.desk c.take_next.new.offers.desk c.doubt.new.self.desk
          (desk-on c.args.self.now.offers.desk c.begin.new.self.desk c.take_next.new.offers.desk
          (keeps-same c.args.self.now.offers.desk c.begin.new.self.desk c.begin.ensures)
          c.take_next.ensures.desk)
          (keeps-same c.take_next.new.offers.desk c.doubt.new.self.desk c.doubt.ensures);
    }
