-- How a text is written in runs of plain bytes, with the others escaped between them.
use Rattle.std.proofs.Common.{◌≡◌, ℕ, true, false, ◌≤◌, ◌<◌, ◌-◌, List, [], ◌∷◌, length, take, drop, get_or, Result, Ok, sym, ap, ◌∙◌, subst}
use Rattle.std.specs.List.{flat_map}
use Rattle.std.proofs.lemmas.Bool.{cond-false}
use Rattle.std.proofs.Math.Seq.{take-length}
use Rattle.exec_io.specs.declared.fault.Failed.{Failed}
use Rattle.exec_io.specs.Views.{SinkView}
use Rattle.exec_io.specs.Writing.{Puts}
use Rattle.exec_io.proofs.PutsLemmas.{Puts-then}
use Rattle.outcome_lines.specs.Line.{is_plain, escape_of, escaped}
use Rattle.outcome_lines.proofs.LineLemmas.{escaped-run}

-- a text up to a place, and then a run of plain bytes
pub Puts-run : {s t u : SinkView} {r : Result (Unit {0}) Failed} (bytes : List ℕ) (start at : ℕ) → start ≤ at → ((k : ℕ) → start ≤ k → k < at → is_plain (get_or bytes k 0) ≡ true) → Puts s t (Ok tt) (flat_map escaped (take start bytes)) → Puts t u r (take (at - start) (drop start bytes)) → Puts s u r (flat_map escaped (take at bytes))
Puts-run {s = s} {u = u} {r = r} bytes start at behind plain before run =
    subst (Puts s u r) (escaped-run bytes start at behind plain) (Puts-then before run)

-- the last run of plain bytes
pub Puts-last : {s t u : SinkView} {r : Result (Unit {0}) Failed} (bytes : List ℕ) (start at : ℕ) → at ≡ length bytes → start ≤ at → ((k : ℕ) → start ≤ k → k < at → is_plain (get_or bytes k 0) ≡ true) → Puts s t (Ok tt) (flat_map escaped (take start bytes)) → Puts t u r (take (length bytes - start) (drop start bytes)) → Puts s u r (flat_map escaped bytes)
Puts-last {s = s} {t = t} {u = u} {r = r} bytes start at end behind plain before run =
    let here : Puts t u r (take (at - start) (drop start bytes)) = subst (λ (n : ℕ). Puts t u r (take (n - start) (drop start bytes))) (sym end) run in
    let whole : take at bytes ≡ bytes = ap (λ (n : ℕ). take n bytes) end ∙ take-length bytes in
    subst (λ (l : List ℕ). Puts s u r (flat_map escaped l)) whole (Puts-run bytes start at behind plain before here)

-- a byte that isn't plain
pub Puts-escape : {s t : SinkView} {r : Result (Unit {0}) Failed} (byte : ℕ) → is_plain byte ≡ false → Puts s t r (escape_of byte) → Puts s t r (escaped byte)
Puts-escape {s = s} {t = t} {r = r} byte special put =
    subst (Puts s t r) (sym (cond-false (is_plain byte) (byte ∷ []) (escape_of byte) special)) put
