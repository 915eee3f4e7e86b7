use Rattle.exec_io.proofs.PutsLemmas.{Puts-then, Puts-stop}
use Rattle.picture_commands.proofs.missing.put_missing.Goals as goal

pub returns-in_err-put_bytes : goal.returns-in_err-put_bytes
returns-in_err-put_bytes g c = Puts-stop _ c.from_residual.ensures.0 c.in_err-put_bytes.ensures

pub returns-in_err-put_name : goal.returns-in_err-put_name
returns-in_err-put_name g c =
    Puts-then c.in_ok-put_bytes.ensures (Puts-stop _ c.from_residual-in_err-put_name.ensures.0 c.in_err-put_name.ensures)

pub returns : goal.returns
returns g c = Puts-then c.in_ok-put_bytes.ensures (Puts-then c.in_ok-put_name.ensures c.put_bytes-2.ensures)
