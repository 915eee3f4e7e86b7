use Rattle.std.proofs.Common.{◌≡◌, ◌+◌, length}
use Rattle.record_loop.specs.Reading.{on, TakesFront}
use Rattle.record_loop.proofs.session.Session.take_lines.Given as goal

abbrev pub invariant-loop-left : goal.invariant-loop-left
invariant-loop-left g l = record {
  taken : l.self.taken + length l.left ≡ l.fn.self.taken + length l.piece;
  advances : TakesFront g.O.Operations.WantsMemory l.piece l.left
      (on (g.O.Operations.state l.fn.operations) (g.K.Sink.told l.fn.out) l.fn.self)
      (on (g.O.Operations.state l.operations) (g.K.Sink.told l.out) l.self);
}

abbrev pub decreases-loop-left : goal.decreases-loop-left
decreases-loop-left g l = length l.left
