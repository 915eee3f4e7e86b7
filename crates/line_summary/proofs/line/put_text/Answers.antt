use Rattle.std.proofs.Common.{refl, codes, decimal, ◌∷◌, [], rules, FitsSigned}
use Rattle.std.specs.Int.{w128}
use Rattle.std.specs.Fmt.{signed_decimal}
use Rattle.std.proofs.lemmas.Int.{to_z-of_z}
use Rattle.exec_value.specs.Bytes.{line_feed}
use Rattle.exec_io.proofs.PutsLemmas.{Puts-then, Puts-stop}
use Rattle.line_summary.proofs.line.put_text.Goals as goal

pub returns-in_err-put_six_counts : goal.returns-in_err-put_six_counts
returns-in_err-put_six_counts g c = Puts-stop (line_feed ∷ []) c.from_residual.ensures.0 (Puts-stop (signed_decimal c.args.summary.now.sum) refl (Puts-stop (codes " sum ") refl c.in_err-put_six_counts.ensures))

pub returns-in_err-put_bytes : goal.returns-in_err-put_bytes
returns-in_err-put_bytes g c = Puts-stop (line_feed ∷ []) c.from_residual-in_err-put_bytes.ensures.0 (Puts-stop (signed_decimal c.args.summary.now.sum) refl (Puts-then c.in_ok-put_six_counts.ensures c.in_err-put_bytes.ensures))

pub returns-in_err-put_signed : goal.returns-in_err-put_signed
returns-in_err-put_signed g c =
    let fits : FitsSigned w128 c.args.summary.now.sum = search rules in
    let put = simp to_z-of_z at c.in_err-put_signed.ensures in
    Puts-stop (line_feed ∷ []) c.from_residual-in_err-put_signed.ensures.0 (Puts-then (Puts-then c.in_ok-put_six_counts.ensures c.in_ok-put_bytes.ensures) put)

pub returns : goal.returns
returns g c =
    let fits : FitsSigned w128 c.args.summary.now.sum = search rules in
    let put = simp to_z-of_z at c.in_ok-put_signed.ensures in
    Puts-then (Puts-then (Puts-then c.in_ok-put_six_counts.ensures c.in_ok-put_bytes.ensures) put) c.put_bytes-2.ensures
