use Rattle.std.proofs.Common.{◌-◌, ℕ, List, ◌++◌, drop, codes, ap, ◌∙◌, sym, subst, arith, take_all, length-drop, to_z-of_z}
use Rattle.std.specs.Fmt.{decimal}
use Rattle.std.proofs.lemmas.Fmt.{length-decimal-le}
use Rattle.exec_io.specs.Writing.{Puts}
use Rattle.outcome_lines.proofs.IntLineLemmas.{line_of-int}
use Rattle.outcome_lines.proofs.int_line.put_int_line.Goals as goal

pub write_digits-start-requires : goal.write_digits-start-requires
write_digits-start-requires g c =
    (omega (arith, length-decimal-le 20 c.args.number (omega arith) (omega arith) c.ranges.number.fits), omega arith)

pub returns : goal.returns
returns g c =
    let fits = c.ranges.value in
    let int = simp to_z-of_z at c.write_int-behind.ensures.written in
    let w = c.write_digits-start in
    let line = take_all (48 - w.result) (drop w.result w.new.buf) (omega (arith, length-drop w.result w.new.buf))
    ∙ w.ensures.written
    ∙ ap (λ (l : List ℕ). decimal c.args.number ++ l)
    (c.write_bytes-end.ensures.written ∙ ap (λ (l : List ℕ). codes " value " ++ l) int)
    ∙ sym (line_of-int c.args.number c.args.value) in
    subst (Puts (g.K.Sink.told c.args.sink.now) (g.K.Sink.told c.put_bytes.new.sink) c.put_bytes.result) line c.put_bytes.ensures
