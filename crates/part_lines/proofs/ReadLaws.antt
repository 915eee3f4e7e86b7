-- What a reader has read, line by line.
use Rattle.std.proofs.Common.{◌≡◌, ℕ, suc, ◌+◌, ◌≤◌, List, [], ◌∷◌, ◌++◌, length, drop, Option, Some, None, refl, sym, ap, ◌∙◌, subst, append_assoc, append-nil, arith, length-append}
use Rattle.std.specs.Option.{option_map}
use Rattle.std.specs.Prelude.{IfSome}
use Rattle.std.specs.Io.KnownBytes.{IsAtEnd, Keeps}
use Rattle.std.proofs.lemmas.List.{drop_at}
use Rattle.std.proofs.lemmas.List.Elements.{All-nil, All-push}
use Rattle.part_lines.specs.declared.limits.TheConstants.{MOST_LINES}
use Rattle.part_lines.specs.declared.line.Said.{Said}
use Rattle.part_lines.specs.Faults.{IsNoLine}
use Rattle.part_lines.specs.Lines.{numbered_line, lines_from, AreLineWords, BeginsLine, IsPartText, Shows, StopsAt}
use Rattle.part_lines.specs.Readers.{ReaderView, HasReadLines}

-- lines, and one more
pub lines_push : (number : ℕ) (said : List (List ℕ)) (words : List ℕ) → lines_from number (said ++ words ∷ []) ≡ lines_from number said ++ numbered_line (number + length said) words
lines_push number [] words =
    let same : number ≡ number + 0 = omega arith in
    append-nil (numbered_line number words) ∙ ap (λ n. numbered_line n words) same
lines_push number (first ∷ said) words =
    let same : number + 1 + length said ≡ number + suc (length said) = omega arith in
    ap (λ (l : List ℕ). numbered_line number first ++ l) (lines_push (number + 1) said words ∙ ap (λ n. lines_from (number + 1) said ++ numbered_line n words) same)
    ∙ sym (append_assoc (numbered_line number first) (lines_from (number + 1) said) (numbered_line (number + suc (length said)) words))

-- before the first line
pub at_start : (text : List ℕ) (reader : ReaderView) → reader.ahead ≡ Some text → reader.passed ≡ 0 → HasReadLines text [] reader
at_start text reader ahead passed = record {
  rest = text;
  ahead = ahead;
  text_is = refl;
  each = All-nil AreLineWords;
  passed = passed;
}

-- a reader of which the same is ahead
pub kept_on : (text : List ℕ) (said : List (List ℕ)) (old new : ReaderView) → HasReadLines text said old → Keeps old.ahead new.ahead → new.passed ≡ old.passed → HasReadLines text said new
kept_on text said old new read keeps passed = record {
  rest = read.rest;
  ahead = known old.ahead new.ahead read.ahead keeps;
  text_is = read.text_is;
  each = read.each;
  passed = passed ∙ read.passed;
}
  where
    known : (before after : Option (List ℕ)) → before ≡ Some read.rest → Keeps before after → after ≡ Some read.rest
    known None after is keeps = cc
    known (Some xs) None is keeps = absurd keeps
    known (Some xs) (Some ys) is keeps = ap Some keeps ∙ is

-- what holds of all that is ahead holds of the rest
pub of_rest : (P : List ℕ → Type 0) (ahead : Option (List ℕ)) (rest : List ℕ) → ahead ≡ Some rest → IfSome ahead P → P rest
of_rest P None rest is holds = cc
of_rest P (Some xs) rest is holds = let same : xs ≡ rest = cc in subst P same holds

-- one line more is passed
pub passed_on : (text : List ℕ) (said : List (List ℕ)) (old new : ReaderView) (s : Said) (words : List ℕ) → HasReadLines text said old
    → IfSome old.ahead (λ bytes. Shows bytes (old.passed + 1) s words)
    → new.passed ≡ old.passed + 1 → new.ahead ≡ option_map (drop s.length) old.ahead → HasReadLines text (said ++ words ∷ []) new
passed_on text said old new s words read at_line passed ahead =
    let shows : Shows read.rest (old.passed + 1) s words = of_rest (λ bytes. Shows bytes (old.passed + 1) s words) old.ahead read.rest read.ahead at_line in
    let number : old.passed + 1 ≡ 1 + length said = omega (arith, read.passed) in
    let line = numbered_line (old.passed + 1) words in
    let dropped : drop s.length read.rest ≡ shows.more = ap (drop s.length) shows.bytes_are ∙ drop_at line shows.more s.length (sym shows.length_is) in
    record {
      rest = shows.more;
      ahead = ahead ∙ ap (option_map (drop s.length)) read.ahead ∙ ap Some dropped;
      text_is =
          read.text_is ∙ ap (λ (l : List ℕ). lines_from 1 said ++ l) shows.bytes_are
          ∙ sym (append_assoc (lines_from 1 said) line shows.more)
          ∙ ap (λ (l : List ℕ). l ++ shows.more) (ap (λ n. lines_from 1 said ++ numbered_line n words) number ∙ sym (lines_push 1 said words));
      each = All-push AreLineWords said words read.each shows.are;
      passed = omega (arith, passed, read.passed, length-append said (words ∷ []));
    }

-- nothing is ahead any more
pub ended : (text : List ℕ) (said : List (List ℕ)) (reader : ReaderView) → HasReadLines text said reader → IsAtEnd reader.ahead → reader.passed ≤ MOST_LINES → IsPartText text said
ended text said reader read end few =
    let nothing : read.rest ≡ [] = at_end reader.ahead read.ahead end in
    record {
      text_is = read.text_is ∙ ap (λ (l : List ℕ). lines_from 1 said ++ l) nothing ∙ append-nil (lines_from 1 said);
      each = read.each;
      few = omega (arith, few, read.passed);
    }
  where
    at_end : (ahead : Option (List ℕ)) → ahead ≡ Some read.rest → IsAtEnd ahead → read.rest ≡ []
    at_end None is end = cc
    at_end (Some xs) is end = cc

-- what is ahead isn't the next line
pub stopped : (text : List ℕ) (said : List (List ℕ)) (reader : ReaderView) (number : ℕ) → HasReadLines text said reader → number ≡ reader.passed + 1 → IfSome reader.ahead (IsNoLine (reader.passed + 1)) → StopsAt text number
stopped text said reader number read is no_line =
    let none : IsNoLine (reader.passed + 1) read.rest = of_rest (IsNoLine (reader.passed + 1)) reader.ahead read.rest read.ahead no_line in
    record {
      said = said;
      rest = read.rest;
      text_is = read.text_is;
      each = read.each;
      number_is = omega (arith, is, read.passed);
      some_rest = none.some;
      no_line = subst (λ (n : ℕ). ¬ BeginsLine n read.rest) (sym is) none.no_line;
    }
