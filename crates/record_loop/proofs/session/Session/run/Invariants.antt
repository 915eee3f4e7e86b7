use Rattle.std.proofs.Common.{◌≡◌, ◌-◌, ◌≤◌, ◌<◌, length, None}
use Rattle.record_lines.specs.declared.limits.TheConstants.{MOST_BYTES}
use Rattle.record_loop.specs.Reading.{on, ReadsOn, ReadsCaughtUp}
use Rattle.record_loop.proofs.session.Session.run.Given as goal

abbrev pub invariant-pieces : goal.invariant-pieces
invariant-pieces g l = record {
  some : 0 < length l.buffer;
  still : (g.S.RecordSource.told l.records).faults ≡ (g.S.RecordSource.told l.fn.records).faults;
  later : (g.S.RecordSource.told l.fn.records).faults ≤ (g.S.RecordSource.told l.records).faults;
  reads : ReadsCaughtUp g.O.Operations.WantsMemory (g.S.RecordSource.told l.fn.records).left
      (on (g.O.Operations.state l.fn.operations) (g.K.Sink.told l.fn.out) l.fn.self)
      (g.S.RecordSource.reads l.fn.records) (g.S.RecordSource.reads l.records);
  goes : ReadsOn g.O.Operations.WantsMemory None
      (g.S.RecordSource.told l.fn.records).left (g.S.RecordSource.told l.records).left
      (on (g.O.Operations.state l.fn.operations) (g.K.Sink.told l.fn.out) l.fn.self)
      (on (g.O.Operations.state l.operations) (g.K.Sink.told l.out) l.self);
}

abbrev pub decreases-pieces : goal.decreases-pieces
decreases-pieces g l = MOST_BYTES - l.self.taken
