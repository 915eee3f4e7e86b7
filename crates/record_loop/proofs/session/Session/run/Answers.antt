use Rattle.std.proofs.Common.{None, Some, [], refl, sym, ap, ◌∙◌, arith, rules}
use Rattle.record_lines.specs.Records.{records_of}
use Rattle.record_loop.proofs.ReadStartLaws.{ReadsOnly-nil, ReadsOnly-trans}
use Rattle.record_loop.proofs.ReadingLaws.{Going-nil}
use Rattle.record_loop.proofs.PrintingLaws.{not-lost}
use Rattle.record_loop.proofs.ClosingLaws.{AllTaken-stays, Ran-closes, none-runs}
use Rattle.record_loop.proofs.TallyLaws.{TalliesWith-same}
use Rattle.record_loop.proofs.session.Session.run.Goals as goal

pub pieces-init : goal.pieces-init
pieces-init g c = record {
  some = c.requires.some;
  still = refl;
  later = omega arith;
  reads = λ opening source going. ReadsOnly-nil (g.S.RecordSource.reads c.args.records.now);
  goes = λ opening source going. going;
}

pub step-requires-clause-going : goal.step-requires-clause-going
step-requires-clause-going g c = λ κs lives.
    let new = c.requires.new in
    let now = c.pieces.invariant.goes new.opening None (record { bytes = []; consumed = tt; taken = new.taken }) in
    record { opening = new.opening; bytes = now.bytes; taken = now.taken }

pub pieces-preserved : goal.pieces-preserved
pieces-preserved g c = record {
  some = search rules;
  still = c.in_default.ensures.still (λ is. cc) ∙ c.pieces.invariant.still;
  later = omega (arith, c.pieces.invariant.later, c.in_default.ensures.later);
  reads = λ opening source going.
      ReadsOnly-trans _ _ _ (c.pieces.invariant.reads opening source going)
      (c.in_default.ensures.reads opening source (c.pieces.invariant.goes opening source going));
  goes = λ opening source going. search (c.in_default.ensures.goes opening source (c.pieces.invariant.goes opening source going));
}

pub take_rest-flight-requires-clause-halted : goal.take_rest-flight-requires-clause-halted
take_rest-flight-requires-clause-halted g c = λ κs lives.
    let new = c.requires.new in
    let source = (g.S.RecordSource.told c.args.records.now).left in
    record {
      sink = g.K.Sink.told c.step.new.out;
      opening = new.opening;
      source = source;
      left = (g.S.RecordSource.told c.step.new.records).left;
      halts = c.in-Some.ensures.goes new.opening source (c.pieces.invariant.goes new.opening source (Going-nil source new.taken));
    }

pub write_all-requires-clause-going : goal.write_all-requires-clause-going
write_all-requires-clause-going g c = λ κs lives.
    let new = c.requires.new in
    let source = (g.S.RecordSource.told c.args.records.now).left in
    let left = (g.S.RecordSource.told c.step.new.records).left in
    let all = c.take_rest-flight.ensures.all (g.K.Sink.told c.step.new.out) new.opening source left (c.in-Some.ensures.goes new.opening source (c.pieces.invariant.goes new.opening source (Going-nil source new.taken))) in
    record { opening = new.opening; lines = records_of all.bytes c.in-Some.end; standing = all.standing }

pub returns-clause-reads : goal.returns-clause-reads
returns-clause-reads g c = λ opening source going.
    ReadsOnly-trans _ _ _ (c.pieces.invariant.reads opening source going)
    (c.in-Some.ensures.reads opening source (c.pieces.invariant.goes opening source going))

pub returns-clause-ran : goal.returns-clause-ran
returns-clause-ran g c = λ opening taken.
    let source = (g.S.RecordSource.told c.args.records.now).left in
    let left = (g.S.RecordSource.told c.step.new.records).left in
    let all = c.take_rest-flight.ensures.all (g.K.Sink.told c.step.new.out) opening source left (c.in-Some.ensures.goes opening source (c.pieces.invariant.goes opening source (Going-nil source taken))) in
    Ran-closes c.in-Some.end (g.S.RecordSource.told c.args.records.now) (g.S.RecordSource.told c.step.new.records) c.finish.result
    (AllTaken-stays (c.write_all.ensures.stays opening) c.write_all.ensures.stays_lost all) c.write_all.ensures.none c.finish.ensures.stays_lost
    (λ outcomes. c.finish.ensures.grows opening.form opening.sink outcomes)
    (λ outcomes. c.finish.ensures.finished opening.form opening.sink outcomes) c.finish.ensures.end
    (λ fault kept.
    omega (arith, c.pieces.invariant.later, c.in-Some.ensures.cause (ap Some fault) (not-lost _ _ (λ lost. c.write_all.ensures.stays_lost (search (lost, c.take_rest-flight.ensures.printer))) kept)))

pub returns-clause-told : goal.returns-clause-told
returns-clause-told g c =
    let new = c.requires.new in
    let opening = new.opening in
    let source = (g.S.RecordSource.told c.args.records.now).left in
    let left = (g.S.RecordSource.told c.step.new.records).left in
    let all = c.take_rest-flight.ensures.all (g.K.Sink.told c.step.new.out) opening source left (c.in-Some.ensures.goes opening source (c.pieces.invariant.goes opening source (Going-nil source new.taken))) in
    let standing = c.write_all.ensures.stays opening (records_of all.bytes c.in-Some.end) all.standing in
    TalliesWith-same standing.printed.counted (c.finish.ensures.finished opening.form opening.sink standing.outcomes standing.printed).counted standing.tallied

pub returns-clause-ended : goal.returns-clause-ended
returns-clause-ended g c =
    let new = c.requires.new in
    let source = (g.S.RecordSource.told c.args.records.now).left in
    let left = (g.S.RecordSource.told c.step.new.records).left in
    let all = c.take_rest-flight.ensures.all (g.K.Sink.told c.step.new.out) new.opening source left (c.in-Some.ensures.goes new.opening source (c.pieces.invariant.goes new.opening source (Going-nil source new.taken))) in
    none-runs (c.write_all.ensures.stays new.opening (records_of all.bytes c.in-Some.end) all.standing) c.write_all.ensures.none

pub returns-clause-plan : goal.returns-clause-plan
returns-clause-plan g c =
    let new = c.requires.new in
    let source = (g.S.RecordSource.told c.args.records.now).left in
    let left = (g.S.RecordSource.told c.step.new.records).left in
    let all = c.take_rest-flight.ensures.all (g.K.Sink.told c.step.new.out) new.opening source left (c.in-Some.ensures.goes new.opening source (c.pieces.invariant.goes new.opening source (Going-nil source new.taken))) in
    (c.write_all.ensures.stays new.opening (records_of all.bytes c.in-Some.end) all.standing).plan_is
    ∙ sym new.taken.standing.plan_is
