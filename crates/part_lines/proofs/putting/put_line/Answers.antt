use Rattle.std.proofs.Common.{◌≡◌, ◌∷◌, ◌++◌, [], decimal, List, ℕ, ap, sym, subst, ◌∙◌, append_assoc}
use Rattle.exec_io.specs.Writing.{Puts}
use Rattle.exec_io.proofs.PutsLemmas.{Puts-then}
use Rattle.exec_value.specs.Bytes.{blank, line_feed}
use Rattle.part_lines.specs.Lines.{numbered_line}
use Rattle.part_lines.proofs.putting.put_line.Goals as goal

pub returns : goal.returns
returns g c = λ words at.
    let digits : List ℕ = c.as_bytes.result.now in
    let are : digits ≡ decimal c.args.number = c.as_bytes.ensures.value ∙ c.format.ensures.text in
    let line : digits ++ c.line.result.now ≡ numbered_line c.args.number words =
    ap (λ (l : List ℕ). l ++ c.line.result.now) are ∙ ap (λ (l : List ℕ). decimal c.args.number ++ l) (c.line.ensures words at)
    ∙ sym (append_assoc (decimal c.args.number) (blank ∷ words) (line_feed ∷ [])) in
    subst (Puts (g.K.Sink.told c.args.out.now) (g.K.Sink.told c.put_bytes-2.new.sink) c.put_bytes-2.result) line (Puts-then c.in_ok-put_bytes.ensures c.put_bytes-2.ensures)
