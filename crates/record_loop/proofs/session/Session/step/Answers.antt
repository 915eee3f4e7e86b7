use Rattle.std.proofs.Common.{take, rules, sym, ◌∙◌}
use Rattle.record_loop.specs.ReadStarts.{start_of}
use Rattle.record_loop.proofs.ReadStartLaws.{ReadsOnly-nil, ReadsOnly-one}
use Rattle.record_loop.proofs.ReadingLaws.{Going-stays, Goes-piece, Halts-fault, Halts-ended, caught-up}
use Rattle.record_loop.proofs.SourceLaws.{Keeps-nil}
use Rattle.record_loop.proofs.session.Session.step.Goals as goal

pub take_piece-requires-clause-going : goal.take_piece-requires-clause-going
take_piece-requires-clause-going g c = λ κs lives.
    let going = c.requires.going in
    record { opening = going.opening; bytes = going.bytes; taken = c.catch_up.ensures.stays going.opening going.bytes going.taken }

pub returns-clause-goes : goal.returns-clause-goes
returns-clause-goes g c = λ opening source going.
    Goes-piece g.O.Operations.WantsMemory opening c.take_piece.result source _ _ (take c.in-Ok.count c.read_beside-answer.new.buf) _ _ c.in-Ok.ensures.bytes.0
    (λ bytes taken. c.take_piece.ensures.takes opening bytes (c.catch_up.ensures.stays opening bytes taken)) going

pub returns-then-lost-clause-goes : goal.returns-then-lost-clause-goes
returns-then-lost-clause-goes g c = λ opening source going.
    let left = (g.S.RecordSource.told c.args.records.now).left in
    Halts-fault left (Keeps-nil left) (Going-stays (c.catch_up.ensures.stays opening) going)

pub returns-in_default-clause-goes : goal.returns-in_default-clause-goes
returns-in_default-clause-goes g c = λ opening source going.
    Halts-fault (g.S.RecordSource.told c.read_beside-answer.new.self).left c.in_default.ensures.bytes (Going-stays (c.catch_up.ensures.stays opening) going)

pub returns-then-count-eq0-clause-goes : goal.returns-then-count-eq0-clause-goes
returns-then-count-eq0-clause-goes g c = λ opening source going.
    let kept = sym c.is_lost-lost.ensures ∙ c.if-lost.false in
    Halts-ended (g.S.RecordSource.told c.read_beside-answer.new.self).left c.in-Ok.count c.read_beside-answer.new.buf c.if-count-eq0.true c.in-Ok.ensures.bytes.0
    (c.in-Ok.ensures.bytes.1 c.if-count-eq0.true (search rules)) c.catch_up.ensures.none kept (Going-stays (c.catch_up.ensures.stays opening) going)

pub returns-clause-reads : goal.returns-clause-reads
returns-clause-reads g c = λ opening source going.
    let kept = sym c.is_lost-lost.ensures ∙ c.if-lost.false in
    let told = g.S.RecordSource.told c.args.records.now in
    ReadsOnly-one (start_of told (g.K.Sink.told c.catch_up.new.out)) _ _ c.in-Ok.ensures.reads
    (caught-up told (Going-stays (c.catch_up.ensures.stays opening) going) c.catch_up.ensures.none kept (c.catch_up.ensures.settled kept))

pub returns-then-count-eq0-clause-reads : goal.returns-then-count-eq0-clause-reads
returns-then-count-eq0-clause-reads g c = λ opening source going.
    let kept = sym c.is_lost-lost.ensures ∙ c.if-lost.false in
    let told = g.S.RecordSource.told c.args.records.now in
    ReadsOnly-one (start_of told (g.K.Sink.told c.catch_up.new.out)) _ _ c.in-Ok.ensures.reads
    (caught-up told (Going-stays (c.catch_up.ensures.stays opening) going) c.catch_up.ensures.none kept (c.catch_up.ensures.settled kept))

pub returns-in_default-clause-reads : goal.returns-in_default-clause-reads
returns-in_default-clause-reads g c = λ opening source going.
    let kept = sym c.is_lost-lost.ensures ∙ c.if-lost.false in
    let told = g.S.RecordSource.told c.args.records.now in
    ReadsOnly-one (start_of told (g.K.Sink.told c.catch_up.new.out)) _ _ c.in_default.ensures.reads
    (caught-up told (Going-stays (c.catch_up.ensures.stays opening) going) c.catch_up.ensures.none kept (c.catch_up.ensures.settled kept))

pub returns-then-lost-clause-reads : goal.returns-then-lost-clause-reads
returns-then-lost-clause-reads g c = λ opening source going.
    ReadsOnly-nil (g.S.RecordSource.reads c.args.records.now)
