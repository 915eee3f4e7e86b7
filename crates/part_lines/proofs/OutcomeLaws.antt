-- What the line of an outcome says is of a sort, and has no line feed.
use Rattle.std.proofs.Common.{◌≡◌, ℕ, suc, ◌+◌, ◌/◌, ◌%◌, ◌^◌, ◌<◌, ◌≤◌, Bool, true, false, ℤ, pos, negsuc, List, [], ◌∷◌, ◌++◌, length, codes, decimal, count_by, cond, Some, IsSome, All, refl, sym, ap, ◌∙◌, subst, inl, inr, arith}
use Rattle.std.specs.Prelude.{nat_lt}
use Rattle.std.specs.Char.{is_ascii_control}
use Rattle.std.specs.Fmt.{signed_decimal, digit_glyph}
use Rattle.std.specs.List.{flat_map, list_all}
use Rattle.std.proofs.lemmas.Bool.{cases_Bool, cond-true, cond-false, false≢true, and_parts, ltb-true}
use Rattle.std.proofs.lemmas.Bool.Decides.{nat_tests}
use Rattle.std.proofs.lemmas.Fmt.{decimal_is_IsNumeral}
use Rattle.std.proofs.lemmas.List.Sums.{sum_by-cons}
use Rattle.std.proofs.lemmas.List.Elements.{All-head, All-tail, All-nil, All-cons, All-append}
use Rattle.exec_value.specs.Bytes.{blank, quote, comma, backslash}
use Rattle.exec_value.specs.declared.data.Datum.{Datum}
use Rattle.exec_value.specs.declared.data.Datum.TheVariants.{Int, Text, Row, SomeInt, SomeText, Nothing}
use Rattle.exec_value.specs.declared.outcome.Completion.TheVariants.{Value, Error, Stopped, NoMemory}
use Rattle.exec_value.specs.declared.outcome.Outcome.{Outcome}
use Rattle.exec_value.specs.declared.outcome.Outcome.TheVariants.{Done, BadRecord}
use Rattle.exec_value.proofs.NumberLemmas.{Decides-is_i64}
use Rattle.outcome_lines.specs.Line.{escaped, escape_of, hex_digits, is_plain, quoted, row_text, text_of, outcome_words}
use Rattle.outcome_lines.specs.OneToOne.{CanBeHeld, IsI64, IsNamed}
use Rattle.outcome_lines.proofs.LineLemmas.{row_text-cons}
use Rattle.outcome_lines.specs.Line.{line_of as outcome_line}
use Rattle.outcome_lines.specs.Summary.{is_value, is_out_of_memory}
use Rattle.record_lines.specs.Lines.{HasNoLineFeed}
use Rattle.exec_value.specs.ErrorName.{is_error_name, is_name_byte}
use Rattle.part_lines.specs.declared.sort.Sort.{Sort}
use Rattle.part_lines.specs.declared.sort.Sort.TheVariants.{Value as ValueSort, Error as ErrorSort, Stopped as StoppedSort, NoMemory as NoMemorySort, BadRecord as BadSort}
use Rattle.part_lines.specs.Lines.{AreLineWords, numbered_line, lines_from}
use Rattle.part_lines.specs.Outcomes.{CountsAgree, IsWritable, LinesAreText, OutcomesArePart, outcomes_words}
use Rattle.part_lines.specs.Sorts.{sort_of}
use Rattle.part_lines.specs.Tallies.{is_value_sort, is_no_memory_sort, says_value, says_no_memory}
use Rattle.part_lines.proofs.LineLaws.{NoFeed, digits_free}

-- bytes of which each is a letter, a digit or a mark
closed : (xs : List ℕ) → list_all (nat_lt 31) xs ≡ true → HasNoLineFeed xs
closed [] e = All-nil NoFeed
closed (x ∷ xs) e =
    let both = and_parts (nat_lt 31 x) (list_all (nat_lt 31) xs) e in
    let high : 31 < x = ltb-true 31 x both.0 in
    All-cons NoFeed x xs (λ same. absurd (omega (arith, high, same))) (closed xs both.1)

-- pieces that have none
joined_free : {X : Type 0} (f : X → List ℕ) (xs : List X) → ((x : X) → HasNoLineFeed (f x)) → HasNoLineFeed (flat_map f xs)
joined_free f [] free = All-nil NoFeed
joined_free f (x ∷ xs) free = All-append NoFeed (f x) (flat_map f xs) (free x) (joined_free f xs free)

joined_free_of : {X : Type 0} (P : X → Type 0) (f : X → List ℕ) (xs : List X) → ((x : X) → P x → HasNoLineFeed (f x)) → All P xs → HasNoLineFeed (flat_map f xs)
joined_free_of P f [] free all = All-nil NoFeed
joined_free_of P f (x ∷ xs) free all =
    All-append NoFeed (f x) (flat_map f xs) (free x (All-head P x xs all)) (joined_free_of P f xs free (All-tail P x xs all))

-- numbers
decimal_free : (n : ℕ) → n < 2 ^ 64 → HasNoLineFeed (decimal n)
decimal_free n small = digits_free (decimal n) (decimal_is_IsNumeral n small).0.1

number_free : (n : ℤ) → IsI64 n → HasNoLineFeed (signed_decimal n)
number_free (pos n) held = let small = ((Decides-is_i64 (pos n)).0 held).sfits in decimal_free n (omega (arith, small))
number_free (negsuc n) held =
    let small = ((Decides-is_i64 (negsuc n)).0 held).sfits in
    All-cons NoFeed 45 (decimal (suc n)) (λ e. absurd (omega (arith, e))) (decimal_free (suc n) (omega (arith, small)))

-- texts
glyph_high : (d : ℕ) → 48 ≤ digit_glyph false d
glyph_high d = grind (arith, nat_tests)

glyph_free : (d : ℕ) (xs : List ℕ) → HasNoLineFeed xs → HasNoLineFeed (digit_glyph false d ∷ xs)
glyph_free d xs free = All-cons NoFeed (digit_glyph false d) xs (λ e. absurd (omega (arith, glyph_high d, e))) free

escaped_free : (x : ℕ) → HasNoLineFeed (escaped x)
escaped_free x =
    elim (cases_Bool (is_plain x)) [
      | inl plain ↦
          subst HasNoLineFeed (sym (cond-true (is_plain x) (x ∷ []) (escape_of x) plain))
          (All-cons NoFeed x [] (λ e. false≢true (ap is_plain (sym e) ∙ plain)) (All-nil NoFeed))
      | inr special ↦
          let escape = cond-false (is_plain x) (x ∷ []) (escape_of x) special in
          elim (cases_Bool (is_ascii_control x)) [
            | inl control ↦
                subst HasNoLineFeed (sym (escape ∙ cond-true (is_ascii_control x) (codes "\\u00" ++ hex_digits x) (backslash ∷ x ∷ []) control))
                (All-append NoFeed (codes "\\u00") (hex_digits x) (closed (codes "\\u00") refl) (glyph_free (x / 16) (digit_glyph false (x % 16) ∷ []) (glyph_free (x % 16) [] (All-nil NoFeed))))
            | inr other ↦
                subst HasNoLineFeed (sym (escape ∙ cond-false (is_ascii_control x) (codes "\\u00" ++ hex_digits x) (backslash ∷ x ∷ []) other))
                (All-cons NoFeed backslash (x ∷ []) (λ e. absurd (omega (arith, e))) (All-cons NoFeed x [] (λ e. false≢true (sym other ∙ ap is_ascii_control e)) (All-nil NoFeed)))
          ]
    ]

quoted_free : (bytes : List ℕ) → HasNoLineFeed (quoted bytes)
quoted_free bytes =
    All-append NoFeed (quote ∷ flat_map escaped bytes) (quote ∷ [])
    (All-cons NoFeed quote (flat_map escaped bytes) (λ e. absurd (omega (arith, e))) (joined_free escaped bytes escaped_free))
    (closed (quote ∷ []) refl)

-- rows
row_free : (numbers : List ℤ) → All IsI64 numbers → HasNoLineFeed (row_text numbers)
row_free [] held = closed (row_text []) refl
row_free (n ∷ ns) held =
    let later : HasNoLineFeed (flat_map (λ k. comma ∷ signed_decimal k) ns) =
    joined_free_of IsI64 (λ k. comma ∷ signed_decimal k) ns
    (λ k fits. All-cons NoFeed comma (signed_decimal k) (λ e. absurd (omega (arith, e))) (number_free k fits))
    (All-tail IsI64 n ns held) in
    subst HasNoLineFeed (sym (row_text-cons (n ∷ ns) (omega arith)))
    (All-append NoFeed (codes "[") _ (closed (codes "[") refl)
    (All-append NoFeed (signed_decimal n) _ (number_free n (All-head IsI64 n ns held))
    (All-append NoFeed _ (codes "]") later (closed (codes "]") refl))))

datum_free : (datum : Datum) → CanBeHeld datum → HasNoLineFeed (text_of datum)
unfolding text_of
datum_free (Int n) held = number_free n held
datum_free (Text bytes) held = quoted_free bytes
datum_free (Row numbers) held = row_free numbers held
datum_free (SomeInt n) held = All-append NoFeed (codes "some ") (signed_decimal n) (closed (codes "some ") refl) (number_free n held)
datum_free (SomeText bytes) held = All-append NoFeed (codes "some ") (quoted bytes) (closed (codes "some ") refl) (quoted_free bytes)
datum_free Nothing held = closed (codes "none") refl

-- names
name_free : (xs : List ℕ) → list_all is_name_byte xs ≡ true → HasNoLineFeed xs
name_free [] e = All-nil NoFeed
name_free (x ∷ xs) e =
    let both = and_parts (is_name_byte x) (list_all is_name_byte xs) e in
    All-cons NoFeed x xs (λ same. false≢true (ap is_name_byte (sym same) ∙ both.0)) (name_free xs both.1)

-- what the line of an outcome says
words_free : (outcome : Outcome) → IsNamed outcome → HasNoLineFeed (outcome_words outcome)
words_free (Done (Value values)) named =
    All-append NoFeed (codes "value") _ (closed (codes "value") refl)
    (joined_free_of CanBeHeld (λ datum. blank ∷ text_of datum) values
    (λ datum held. All-cons NoFeed blank (text_of datum) (λ e. absurd (omega (arith, e))) (datum_free datum held)) named)
words_free (Done (Error name)) named =
    All-append NoFeed (codes "error ") name (closed (codes "error ") refl) (name_free name (and_parts _ _ named).1)
words_free (Done Stopped) named = closed (codes "stopped") refl
words_free (Done NoMemory) named = closed (codes "out-of-memory") refl
words_free BadRecord named = closed (codes "bad-record") refl

-- of which sort it is
abbrev sort_for : Outcome → Sort
sort_for (Done (Value values)) = ValueSort
sort_for (Done (Error name)) = ErrorSort
sort_for (Done Stopped) = StoppedSort
sort_for (Done NoMemory) = NoMemorySort
sort_for BadRecord = BadSort

value_sort : (values : List Datum) → sort_of (codes "value" ++ flat_map (λ datum. blank ∷ text_of datum) values) ≡ Some ValueSort
unfolding sort_of
value_sort [] = refl
value_sort (datum ∷ values) = refl

error_sort : (name : List ℕ) → is_error_name name ≡ true → sort_of (codes "error " ++ name) ≡ Some ErrorSort
unfolding sort_of
error_sort name good = cond-true (is_error_name name) (Some ErrorSort) _ good

other_sorts : (sort_of (codes "stopped") ≡ Some StoppedSort) × (sort_of (codes "out-of-memory") ≡ Some NoMemorySort) × (sort_of (codes "bad-record") ≡ Some BadSort)
unfolding sort_of
other_sorts = (refl, refl, refl)

sort_is : (outcome : Outcome) → IsNamed outcome → sort_of (outcome_words outcome) ≡ Some (sort_for outcome)
sort_is (Done (Value values)) named = value_sort values
sort_is (Done (Error name)) named = error_sort name named
sort_is (Done Stopped) named = other_sorts.0
sort_is (Done NoMemory) named = other_sorts.1
sort_is BadRecord named = other_sorts.2

are_words : (outcome : Outcome) → IsWritable outcome → AreLineWords (outcome_words outcome)
are_words outcome writable = record {
  sort = subst IsSome (sym (sort_is outcome writable.named)) refl;
  free = words_free outcome writable.named;
  short = writable.short;
}

all_words : (outcomes : List Outcome) → All IsWritable outcomes → All AreLineWords (outcomes_words outcomes)
all_words [] all = All-nil AreLineWords
all_words (outcome ∷ outcomes) all =
    All-cons AreLineWords (outcome_words outcome) (outcomes_words outcomes) (are_words outcome (All-head IsWritable outcome outcomes all))
    (all_words outcomes (All-tail IsWritable outcome outcomes all))

line_same : (number : ℕ) (outcome : Outcome) → numbered_line number (outcome_words outcome) ≡ outcome_line number outcome
unfolding outcome_line
line_same number outcome = refl

pub lines_are_text : LinesAreText
lines_are_text number [] = refl
lines_are_text number (outcome ∷ outcomes) =
    ap (λ (l : List ℕ). l ++ lines_from (number + 1) (outcomes_words outcomes)) (line_same number outcome)
    ∙ ap (λ (l : List ℕ). outcome_line number outcome ++ l) (lines_are_text (number + 1) outcomes)

as_many : (outcomes : List Outcome) → length (outcomes_words outcomes) ≡ length outcomes
as_many [] = refl
as_many (outcome ∷ outcomes) = ap (λ n. suc n) (as_many outcomes)

pub outcomes_are_part : OutcomesArePart
outcomes_are_part outcomes all few = record {
  text_is = sym (lines_are_text 1 outcomes);
  each = all_words outcomes all;
  few = omega (arith, few, as_many outcomes);
}

value_said : (outcome : Outcome) → IsNamed outcome → says_value (outcome_words outcome) ≡ is_value outcome
value_said outcome named = by_sort (sort_is outcome named)
  where
    of_outcome : (o : Outcome) → is_value_sort (Some (sort_for o)) ≡ is_value o
    of_outcome (Done (Value values)) = refl
    of_outcome (Done (Error name)) = refl
    of_outcome (Done Stopped) = refl
    of_outcome (Done NoMemory) = refl
    of_outcome BadRecord = refl

    by_sort : sort_of (outcome_words outcome) ≡ Some (sort_for outcome) → says_value (outcome_words outcome) ≡ is_value outcome
    by_sort e = ap is_value_sort e ∙ of_outcome outcome

no_memory_said : (outcome : Outcome) → IsNamed outcome → says_no_memory (outcome_words outcome) ≡ is_out_of_memory outcome
no_memory_said outcome named = by_sort (sort_is outcome named)
  where
    of_outcome : (o : Outcome) → is_no_memory_sort (Some (sort_for o)) ≡ is_out_of_memory o
    of_outcome (Done (Value values)) = refl
    of_outcome (Done (Error name)) = refl
    of_outcome (Done Stopped) = refl
    of_outcome (Done NoMemory) = refl
    of_outcome BadRecord = refl

    by_sort : sort_of (outcome_words outcome) ≡ Some (sort_for outcome) → says_no_memory (outcome_words outcome) ≡ is_out_of_memory outcome
    by_sort e = ap is_no_memory_sort e ∙ of_outcome outcome

counted : (said : List ℕ → Bool) (is : Outcome → Bool) → ((outcome : Outcome) → IsNamed outcome → said (outcome_words outcome) ≡ is outcome)
    → (outcomes : List Outcome) → All IsWritable outcomes → count_by said (outcomes_words outcomes) ≡ count_by is outcomes
counted said is same [] all = refl
counted said is same (outcome ∷ outcomes) all =
    let first = same outcome (All-head IsWritable outcome outcomes all).named in
    let later = counted said is same outcomes (All-tail IsWritable outcome outcomes all) in
    sum_by-cons (λ x. cond (said x) 1 0) (outcome_words outcome) (outcomes_words outcomes)
    ∙ ap (λ (b : Bool). cond b 1 0 + count_by said (outcomes_words outcomes)) first ∙ ap (λ (n : ℕ). cond (is outcome) 1 0 + n) later
    ∙ sym (sum_by-cons (λ x. cond (is x) 1 0) outcome outcomes)

pub counts_agree : (outcomes : List Outcome) → All IsWritable outcomes → CountsAgree outcomes
counts_agree outcomes all = record {
  values = counted says_value is_value value_said outcomes all;
  no_memory = counted says_no_memory is_out_of_memory no_memory_said outcomes all;
}
