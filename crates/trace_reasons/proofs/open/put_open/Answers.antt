use Rattle.std.proofs.Common.{◌≡◌, ◌≤◌, ℕ, ◌-◌, false, nat_lt, List, ◌++◌, length, take, drop, codes, sym, ap, ◌∙◌, arith, length-drop}
use Rattle.std.proofs.lemmas.Bool.{le-ltb, cond-false}
use Rattle.std.proofs.lemmas.List.{take_all}
use Rattle.pictures.proofs.Joining.{Adds-then, Adds-same}
use Rattle.trace_reasons.proofs.open.put_open.Goals as goal

pub returns : goal.returns
returns c =
    let all = c.args.all.now in
    let some : 2 ≤ length all = omega arith in
    let long : nat_lt (length all) 2 ≡ false = le-ltb (length all) 2 some in
    let rest : take (length all - 2) (drop 2 all) ≡ drop 2 all = take_all (length all - 2) (drop 2 all) (omega (arith, length-drop 2 all)) in
    Adds-same
    (ap (λ (l : List ℕ). codes "open: " ++ l) rest ∙ sym (cond-false (nat_lt (length all) 2) (codes "nothing open") (codes "open: " ++ drop 2 all) long))
    (Adds-then c.in_ok-put.ensures c.in_ok-put-2.ensures)
