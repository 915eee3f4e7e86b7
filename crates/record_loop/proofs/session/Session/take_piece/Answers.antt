use Rattle.std.proofs.Common.{◌-◌, ◌++◌, Some, sym, subst, length-take, arith}
use Rattle.record_lines.specs.declared.ending.End.{End}
use Rattle.record_lines.specs.declared.limits.TheConstants.{MOST_BYTES}
use Rattle.record_loop.specs.Reading.{on, StandsAfterPiece}
use Rattle.record_loop.proofs.ReadingLaws.{StandsAfterPiece-cut}
use Rattle.record_loop.proofs.session.Session.take_piece.Goals as goal

pub returns-clause-takes : goal.returns-clause-takes
returns-clause-takes g c = λ opening bytes taken.
    let room = MOST_BYTES - c.args.self.now.taken in
    let place = on (g.O.Operations.state c.take_lines-within.new.operations) (g.K.Sink.told c.take_lines-within.new.out) c.take_lines-within.new.self in
    let P : End → Type 0 = λ end. StandsAfterPiece g.O.Operations.WantsMemory opening (Some end) (bytes ++ c.args.piece.now) place in
    subst P (sym c.unwrap_or.ensures)
    (StandsAfterPiece-cut g.O.Operations.WantsMemory opening bytes c.args.piece.now room c.take_lines-within.result place (omega arith)
    (λ all. omega (arith, c.take_lines-within.ensures.taken all, length-take room c.args.piece.now, c.args.self.now.few_bytes))
    c.take_lines-within.ensures.lost
    (c.take_lines-within.ensures.takes opening bytes taken))
