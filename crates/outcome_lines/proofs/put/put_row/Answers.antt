use Rattle.std.proofs.Common.{get_or, pos, rules, w64, FitsSigned}
use Rattle.std.proofs.lemmas.Int.{to_z-of_z}
use Rattle.outcome_lines.proofs.LineLemmas.{row_text-cons}
use Rattle.exec_io.proofs.PutsLemmas.{Puts-then, Puts-stop, rest_of}
use Rattle.outcome_lines.proofs.put.put_row.Goals as goal

pub returns-in_err-put_int-in-len1-up : goal.returns-in_err-put_int-in-len1-up
returns-in_err-put_int-in-len1-up g c =
    let fits : FitsSigned w64 (get_or c.args.numbers.now 0 (pos 0)) = search rules in
    let put = simp to_z-of_z at c.in_err-put_int-in-len1-up.ensures in
    rw (row_text-cons c.args.numbers.now c.in-len1-up.len_at_least)
    (Puts-then c.in_ok-put_bytes-in-len1-up.ensures (Puts-stop {e = c.in_err-put_int-in-len1-up.field-0.0} _ c.from_residual-in_err-put_int-in-len1-up.ensures.0 put))

pub returns-in_err-put_later-in-len1-up : goal.returns-in_err-put_later-in-len1-up
returns-in_err-put_later-in-len1-up g c =
    let fits : FitsSigned w64 (get_or c.args.numbers.now 0 (pos 0)) = search rules in
    let put = simp to_z-of_z at c.in_ok-put_int-in-len1-up.ensures in
    rw (row_text-cons c.args.numbers.now c.in-len1-up.len_at_least)
    (Puts-then c.in_ok-put_bytes-in-len1-up.ensures (Puts-then put (Puts-stop _ c.from_residual-in_err-put_later-in-len1-up.ensures.0 (rw (rest_of c.args.numbers.now 1) at c.in_err-put_later-in-len1-up.ensures))))

pub returns-in_ok-put_later-in-len1-up : goal.returns-in_ok-put_later-in-len1-up
returns-in_ok-put_later-in-len1-up g c =
    let fits : FitsSigned w64 (get_or c.args.numbers.now 0 (pos 0)) = search rules in
    let put = simp to_z-of_z at c.in_ok-put_int-in-len1-up.ensures in
    rw (row_text-cons c.args.numbers.now c.in-len1-up.len_at_least)
    (Puts-then c.in_ok-put_bytes-in-len1-up.ensures (Puts-then put (Puts-then (rw (rest_of c.args.numbers.now 1) at c.in_ok-put_later-in-len1-up.ensures) c.put_bytes-in-len1-up-2.ensures)))
