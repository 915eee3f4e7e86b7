-- The text of a part is that of one list of lines.
use Rattle.std.proofs.Common.{◌≡◌, ℕ, suc, ◌+◌, ◌≤◌, List, [], ◌∷◌, ◌++◌, length, decimal, refl, sym, ap, ◌∙◌, arith, length-append}
use Rattle.std.specs.Prelude.{All}
use Rattle.std.proofs.lemmas.List.Elements.{All-head, All-tail}
use Rattle.exec_value.specs.Bytes.{blank, line_feed}
use Rattle.part_lines.specs.declared.limits.TheConstants.{MOST_LINES}
use Rattle.part_lines.specs.Lines.{numbered_line, lines_from, AreLineWords, HasOneReading}
use Rattle.part_lines.proofs.LineLaws.{cancel, cut_once, head_free, line_is, same_words}

-- a line is no empty text
some_line : (number : ℕ) (words more : List ℕ) → 1 ≤ length (numbered_line number words ++ more)
some_line number words more =
    omega (arith, length-append (numbered_line number words) more, length-append (decimal number ++ blank ∷ words) (line_feed ∷ []))

one_way : (number : ℕ) (said other : List (List ℕ)) → number + length said ≤ MOST_LINES + 1 → All AreLineWords said → All AreLineWords other
    → lines_from number said ≡ lines_from number other → said ≡ other
one_way number [] [] few each also is = refl
one_way number [] (w ∷ other) few each also is = absurd (omega (arith, ap length is, some_line number w (lines_from (number + 1) other)))
one_way number (v ∷ said) [] few each also is = absurd (omega (arith, ap length is, some_line number v (lines_from (number + 1) said)))
one_way number (v ∷ said) (w ∷ other) few each also is =
    let small : number ≤ MOST_LINES = omega (arith, few) in
    let r1 : List ℕ = lines_from (number + 1) said in
    let r2 : List ℕ = lines_from (number + 1) other in
    let same : (decimal number ++ blank ∷ v) ++ line_feed ∷ r1 ≡ (decimal number ++ blank ∷ w) ++ line_feed ∷ r2 =
    sym (line_is number v r1) ∙ (is ∙ line_is number w r2) in
    let heads : decimal number ++ blank ∷ v ≡ decimal number ++ blank ∷ w =
    cut_once (decimal number ++ blank ∷ v) (decimal number ++ blank ∷ w) r1 r2
    (head_free number v small (All-head AreLineWords v said each).free) (head_free number w small (All-head AreLineWords w other also).free) same in
    let first : v ≡ w = same_words number v w heads in
    let behind : line_feed ∷ r1 ≡ line_feed ∷ r2 =
    cancel (decimal number ++ blank ∷ w) (line_feed ∷ r1) (line_feed ∷ r2) (ap (λ (l : List ℕ). l ++ line_feed ∷ r1) (sym heads) ∙ same) in
    let tails : r1 ≡ r2 = cc in
    let rest : said ≡ other = one_way (number + 1) said other (omega (arith, few)) (All-tail AreLineWords v said each) (All-tail AreLineWords w other also) tails in
    cc

pub one_reading : HasOneReading
one_reading text said other is also =
    one_way 1 said other (omega (arith, is.few)) is.each also.each (sym is.text_is ∙ also.text_is)
