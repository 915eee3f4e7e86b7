use Rattle.std.proofs.Common.{refl, codes, decimal, ◌∷◌, []}
use Rattle.exec_io.proofs.PutsLemmas.{Puts-then, Puts-stop}
use Rattle.line_summary.proofs.line.put_two_counts.Goals as goal

pub returns-in_err-put_bytes : goal.returns-in_err-put_bytes
returns-in_err-put_bytes g c = Puts-stop (decimal c.args.summary.now.values) c.from_residual.ensures.0 (Puts-stop (codes " values ") refl (Puts-stop (decimal c.args.summary.now.lines) refl c.in_err-put_bytes.ensures))

pub returns-in_err-put_number : goal.returns-in_err-put_number
returns-in_err-put_number g c = Puts-stop (decimal c.args.summary.now.values) c.from_residual-in_err-put_number.ensures.0 (Puts-stop (codes " values ") refl (Puts-then c.in_ok-put_bytes.ensures c.in_err-put_number.ensures))

pub returns-in_err-put_bytes-2 : goal.returns-in_err-put_bytes-2
returns-in_err-put_bytes-2 g c = Puts-stop (decimal c.args.summary.now.values) c.from_residual-in_err-put_bytes-2.ensures.0 (Puts-then (Puts-then c.in_ok-put_bytes.ensures c.in_ok-put_number.ensures) c.in_err-put_bytes-2.ensures)

pub returns : goal.returns
returns g c = Puts-then (Puts-then (Puts-then c.in_ok-put_bytes.ensures c.in_ok-put_number.ensures) c.in_ok-put_bytes-2.ensures) c.put_number-2.ensures
