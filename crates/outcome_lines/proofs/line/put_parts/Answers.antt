use Rattle.std.proofs.Common.{refl}
use Rattle.outcome_lines.specs.Line.{line_of}
use Rattle.exec_io.proofs.PutsLemmas.{Puts-then, Puts-stop}
use Rattle.outcome_lines.proofs.line.put_parts.Goals as goal

pub returns-in_err-put_number : goal.returns-in_err-put_number
unfolding line_of
returns-in_err-put_number g c = Puts-stop _ c.from_residual.ensures.0 (Puts-stop _ refl c.in_err-put_number.ensures)

pub returns-in_err-put_bytes : goal.returns-in_err-put_bytes
unfolding line_of
returns-in_err-put_bytes g c =
    Puts-stop _ c.from_residual-in_err-put_bytes.ensures.0 (Puts-then c.in_ok-put_number.ensures (Puts-stop _ refl c.in_err-put_bytes.ensures))

pub returns-in_err-put_outcome : goal.returns-in_err-put_outcome
unfolding line_of
returns-in_err-put_outcome g c =
    Puts-stop _ c.from_residual-in_err-put_outcome.ensures.0 (Puts-then c.in_ok-put_number.ensures (Puts-then c.in_ok-put_bytes.ensures c.in_err-put_outcome.ensures))

pub returns : goal.returns
unfolding line_of
returns g c =
    Puts-then (Puts-then c.in_ok-put_number.ensures (Puts-then c.in_ok-put_bytes.ensures c.in_ok-put_outcome.ensures)) c.put_bytes-2.ensures
