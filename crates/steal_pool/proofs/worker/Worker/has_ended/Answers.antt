use Rattle.std.proofs.Common.{false, refl}
use Rattle.std.proofs.lemmas.Bool.{both_ways}
use Rattle.deck_relay.specs.Desks.{desk-on}
use Rattle.steal_pool.proofs.Kept.{keeps-same}
use Rattle.steal_pool.proofs.worker.Worker.has_ended.Goals as goal

pub returns-in-Took : goal.returns-in-Took
returns-in-Took g c =
    let round = c.go_round.ensures in
    record {
      ready = round.ready;
      same = round.same;
      aside = round.aside;
      ended = λ is. absurd (both_ways false refl is);
      desk = round.desk;
    }

pub returns-in-Idle : goal.returns-in-Idle
returns-in-Idle g c =
    let round = c.go_round.ensures in
    record {
      ready = round.ready;
      same = round.same;
      aside = round.aside;
      ended = λ is. absurd (both_ways false refl is);
      desk = desk-on c.args.self.now.offers.desk c.go_round.new.self.offers.desk c.wait.new.self.desk round.desk
          (keeps-same c.go_round.new.self.offers.desk c.wait.new.self.desk c.wait.ensures);
    }

pub returns-in-Ended : goal.returns-in-Ended
returns-in-Ended g c =
    let round = c.go_round.ensures in
    record {
      ready = round.ready;
      same = round.same;
      aside = round.aside;
      ended = λ _. c.in-Ended.ensures.ended;
      desk = desk-on c.args.self.now.offers.desk c.go_round.new.self.offers.desk c.leave-counted.new.self.desk round.desk
          (keeps-same c.go_round.new.self.offers.desk c.leave-counted.new.self.desk c.leave-counted.ensures);
    }
