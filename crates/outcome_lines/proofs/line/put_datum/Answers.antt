use Rattle.std.proofs.Common.{rules, w64, FitsSigned}
use Rattle.std.proofs.lemmas.Int.{to_z-of_z}
use Rattle.outcome_lines.specs.Line.{text_of}
use Rattle.exec_io.proofs.PutsLemmas.{Puts-then, Puts-stop}
use Rattle.outcome_lines.proofs.line.put_datum.Goals as goal

pub returns-in-Int : goal.returns-in-Int
unfolding text_of
returns-in-Int g c =
    let fits : FitsSigned w64 c.in-Int.number = search rules in
    let put = simp to_z-of_z at c.put_int.ensures in
    rw c.in-Int.is put

pub returns-in-Text : goal.returns-in-Text
unfolding text_of
returns-in-Text g c = rw (c.in-Text.is, ← c.as_bytes.ensures.bytes) c.put_text.ensures

pub returns-in-Row : goal.returns-in-Row
unfolding text_of
returns-in-Row g c = rw (c.in-Row.is, ← c.as_slice.ensures.numbers) c.put_row.ensures

pub returns-in_err-put_bytes-in-SomeInt : goal.returns-in_err-put_bytes-in-SomeInt
unfolding text_of
returns-in_err-put_bytes-in-SomeInt g c =
    rw c.in-SomeInt.is (Puts-stop _ c.from_residual.ensures.0 c.in_err-put_bytes-in-SomeInt.ensures)

pub returns-in_err-put_bytes-in-SomeText : goal.returns-in_err-put_bytes-in-SomeText
unfolding text_of
returns-in_err-put_bytes-in-SomeText g c =
    rw c.in-SomeText.is (Puts-stop _ c.from_residual-in_err-put_bytes-in-SomeText.ensures.0 c.in_err-put_bytes-in-SomeText.ensures)

pub returns-in_ok-put_bytes-in-SomeInt : goal.returns-in_ok-put_bytes-in-SomeInt
unfolding text_of
returns-in_ok-put_bytes-in-SomeInt g c =
    let fits : FitsSigned w64 c.in-SomeInt.number = search rules in
    let put = simp to_z-of_z at c.put_int-in-SomeInt.ensures in
    rw c.in-SomeInt.is (Puts-then c.in_ok-put_bytes-in-SomeInt.ensures put)

pub returns-in_ok-put_bytes-in-SomeText : goal.returns-in_ok-put_bytes-in-SomeText
unfolding text_of
returns-in_ok-put_bytes-in-SomeText g c =
    let put = rw c.as_bytes-in-SomeText.ensures.bytes at c.put_text-in-SomeText.ensures in
    rw c.in-SomeText.is (Puts-then c.in_ok-put_bytes-in-SomeText.ensures put)

pub returns-in-Nothing : goal.returns-in-Nothing
unfolding text_of
returns-in-Nothing g c = rw c.in-Nothing.is c.put_bytes-in-Nothing.ensures
