use Rattle.std.proofs.Common.{◌≡◌, true, length}
use Rattle.record_loop.specs.Standing.{at, StaysStanding}
use Rattle.record_loop.proofs.in_flight.InFlight.write_all.Given as goal

abbrev pub invariant-flight : goal.invariant-flight
invariant-flight g l = record {
  lost : l.fn.self.printer.lost ≡ true → l.self.printer.lost ≡ true;
  stays : StaysStanding g.O.Operations.WantsMemory
      (at (g.O.Operations.state l.fn.operations) (g.K.Sink.told l.fn.out) l.fn.self)
      (at (g.O.Operations.state l.operations) (g.K.Sink.told l.out) l.self);
}

abbrev pub decreases-flight : goal.decreases-flight
decreases-flight g l = length l.self.slots.items
