use Rattle.std.proofs.Common.{◌≡◌, ◌∷◌, decimal, ℕ, ap, ◌∙◌, None, Some}
use Rattle.std.proofs.lemmas.Bool.Decides.{Decides-eqb}
use Rattle.std.proofs.lemmas.Slice.Eq.{strip_prefix_is}
use Rattle.part_lines.proofs.LineLaws.{other_digits, blank_behind}
use Rattle.part_lines.proofs.line.words_of.Goals as goal

pub returns-in_default : goal.returns-in_default
returns-in_default c =
    let digits = c.as_bytes-digits.result.now in
    let are : digits ≡ decimal c.args.number = c.as_bytes-digits.ensures.value ∙ c.format.ensures.text in
    other_digits c.args.number c.args.line.now digits are (strip_prefix_is Decides-eqb c.args.line.now digits None c.in_default.ensures.cases)

pub returns-then-first-eq32 : goal.returns-then-first-eq32
returns-then-first-eq32 c =
    let digits = c.as_bytes-digits.result.now in
    let are : digits ≡ decimal c.args.number = c.as_bytes-digits.ensures.value ∙ c.format.ensures.text in
    let begun = strip_prefix_is Decides-eqb c.args.line.now digits (Some c.in-Some.rest) c.in-Some.ensures.cases in
    let words = c.in-Some-split_first.words.now in
    blank_behind c.args.number c.args.line.now digits are c.in-Some.rest.now begun words
    (c.in-Some-split_first.ensures.cases.0 ∙ ap (λ (b : ℕ). b ∷ words) c.if-first-eq32.true)
