use Rattle.exec_io.proofs.PutsLemmas.{Puts-then, Puts-stop}
use Rattle.outcome_lines.proofs.put.put_text.Goals as goal

pub returns-in_err-put_escaped : goal.returns-in_err-put_escaped
returns-in_err-put_escaped g c =
    Puts-then c.in_ok-put_bytes.ensures (Puts-stop _ c.from_residual-in_err-put_escaped.ensures.0 c.in_err-put_escaped.ensures)

pub returns : goal.returns
returns g c = Puts-then c.in_ok-put_bytes.ensures (Puts-then c.in_ok-put_escaped.ensures c.put_bytes-2.ensures)
