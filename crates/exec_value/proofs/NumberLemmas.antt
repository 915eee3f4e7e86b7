-- How an int record is read by std's `parse`.
use Rattle.std.proofs.Common.{◌≡◌, ℕ, zero, suc, ◌+◌, ◌*◌, ◌^◌, ◌-◌, ◌<◌, ◌≤◌, Bool, true, false, eqb, ltb, leb, List, [], ◌∷◌, length, drop, get_or, Some, None, Result, Ok, Err, ℤ, pos, negsuc, w64, FitsSigned, Decides, inl, inr, refl, sym, ap, ◌∙◌, subst, rules, arith}
use Rattle.std.specs.Char.{is_ascii_digit}
use Rattle.std.specs.List.{list_all}
use Rattle.std.specs.Result.{result_ok}
use Rattle.std.specs.Str.{IsAscii, IsUtf8}
use Rattle.std.specs.Str.Parse.{AllDigits, IsNumeral, ParsesSigned, starts_with_minus, without_leading_plus, without_leading_sign, digits_value, signed_digits_value}
use Rattle.std.proofs.lemmas.Bool.{and_parts, and_from, and_left, and_right, cases_Bool, ltb-true, lt-ltb, leb-true, le-leb, cond-true, cond-false, false_from_ne_true, eqb-true}
use Rattle.std.proofs.lemmas.Fmt.{IsAscii-from_digits}
use Rattle.std.proofs.lemmas.Str.{IsUtf8-from_ascii}
use Rattle.std.proofs.lemmas.Str.Ascii.{IsAscii-nil, IsAscii-cons}
use Rattle.std.proofs.lemmas.Str.Parse.{digit_at, without_leading_plus_none, IsNumeralModel, numerals_by_value}
use Rattle.std.specs.Char.{digit_value}
use Rattle.std.proofs.Math.Nat.{pow-le-pow_right, pow-suc}
use Rattle.std.proofs.lemmas.Bool.Decides.{nat_tests}
use Rattle.std.proofs.lemmas.Int.Digits.{digits_value-lt}
use Rattle.exec_value.specs.Number.{is_i64, is_numeral, without_minus, int_of, size_of, signed}

-- std's digits
digits : IsNumeralModel (λ ds. list_all is_ascii_digit ds ≡ true) (digits_value 10)
digits = numerals_by_value (λ ds. list_all is_ascii_digit ds ≡ true) (search rules)

-- the range of i64
pub Decides-is_i64 : (z : ℤ) → Decides (is_i64 z) (FitsSigned w64 z)
Decides-is_i64 (pos n) = (λ e. record { sfits = ltb-true n (2 ^ 63) e }, λ f. lt-ltb n (2 ^ 63) f.sfits)
Decides-is_i64 (negsuc n) = (
  λ e. record { sfits = omega (arith, leb-true n (2 ^ 63 - 1) (and_parts (leb n (2 ^ 63 - 1)) true e).0) },
  λ f. and_from (leb n (2 ^ 63 - 1)) true (le-leb n (2 ^ 63 - 1) (omega (arith, f.sfits))) refl,
)

-- a numeral is digits, after the minus sign that may stand first
numeral_digits : (bs : List ℕ) → is_numeral bs ≡ true → IsNumeral 10 (without_minus bs)
numeral_digits bs e =
    let p = and_parts (ltb 0 (length (without_minus bs))) (list_all is_ascii_digit (without_minus bs)) e in
    (ltb-true 0 (length (without_minus bs)) p.0, digits.to (without_minus bs) p.1)

-- which std reads behind a sign too, since no plus stands first
numeral_sign : (bs : List ℕ) → IsNumeral 10 (without_minus bs) → without_leading_sign bs ≡ without_minus bs
numeral_sign bs n =
    elim (cases_Bool (starts_with_minus bs)) [
      | inl minus ↦
          cond-true (starts_with_minus bs) (drop 1 bs) (without_leading_plus bs) minus
          ∙ sym (cond-true (starts_with_minus bs) (drop 1 bs) bs minus)
      | inr plain ↦
          let same : without_minus bs ≡ bs = cond-false (starts_with_minus bs) (drop 1 bs) bs plain in
          let first = digit_at (without_minus bs) 0 n.1 n.0 in
          let here : get_or (without_minus bs) 0 0 ≡ get_or bs 0 0 = ap (λ (l : List ℕ). get_or l 0 0) same in
          cond-false (starts_with_minus bs) (drop 1 bs) (without_leading_plus bs) plain
          ∙ without_leading_plus_none bs (λ plus. omega (arith, here, plus, first.0))
          ∙ sym same
    ]

-- what `parse` answers on a numeral
pub int_of-parse : {E : Type 0} (bs : List ℕ) (r : Result ℤ E) → is_numeral bs ≡ true → ParsesSigned w64 10 bs r → result_ok r ≡ int_of bs
unfolding int_of
int_of-parse bs (Ok x) e h =
    let both = and_from (is_numeral bs) (is_i64 (signed_digits_value 10 bs)) e ((Decides-is_i64 (signed_digits_value 10 bs)).1 h.0.1) in
    ap (λ (z : ℤ). Some z) h.1 ∙ sym (cond-true _ (Some (signed_digits_value 10 bs)) None both)
int_of-parse bs (Err x) e h =
    let n = numeral_digits bs e in
    let digits_behind = subst (IsNumeral 10) (sym (numeral_sign bs n)) n in
    let wide : is_i64 (signed_digits_value 10 bs) ≡ false = false_from_ne_true (is_i64 (signed_digits_value 10 bs)) (λ fits. h (digits_behind, (Decides-is_i64 (signed_digits_value 10 bs)).0 fits)) in
    sym (cond-false _ (Some (signed_digits_value 10 bs)) None (and_right (is_numeral bs) (is_i64 (signed_digits_value 10 bs)) wide))

-- what isn't a numeral is no int record
pub int_of-none : (bs : List ℕ) → is_numeral bs ≡ false → int_of bs ≡ None
unfolding int_of
int_of-none bs e = cond-false _ (Some (signed_digits_value 10 bs)) None (and_left (is_numeral bs) (is_i64 (signed_digits_value 10 bs)) e)

-- a numeral is ASCII
numeral_ascii : (bs : List ℕ) → IsNumeral 10 (without_minus bs) → IsAscii bs
numeral_ascii [] n = IsAscii-nil
numeral_ascii (b ∷ bs) n =
    elim (cases_Bool (eqb b 45)) [
      | inl minus ↦
          let same : without_minus (b ∷ bs) ≡ bs = cond-true (eqb b 45) bs (b ∷ bs) minus in
          IsAscii-cons b bs (omega (arith, eqb-true b 45 minus)) (IsAscii-from_digits bs (subst (AllDigits 10) same n.1))
      | inr plain ↦
          let same : without_minus (b ∷ bs) ≡ b ∷ bs = cond-false (eqb b 45) bs (b ∷ bs) plain in
          IsAscii-from_digits (b ∷ bs) (subst (AllDigits 10) same n.1)
    ]

-- and so it is text
pub IsUtf8-numeral : (bs : List ℕ) → is_numeral bs ≡ true → IsUtf8 bs
IsUtf8-numeral bs e = IsUtf8-from_ascii bs (numeral_ascii bs (numeral_digits bs e))

-- fewer digits show less
pub tens : (i j : ℕ) → i ≤ j → 10 ^ i ≤ 10 ^ j
tens i j few = let ten : zero < 10 = omega arith in pow-le-pow_right ten few

pub tens-more : (i : ℕ) → 10 ^ (i + 1) ≡ 10 ^ i * 10
tens-more i = let next : i + 1 ≡ suc i = omega arith in ap (λ (k : ℕ). 10 ^ k) next ∙ pow-suc 10 i

-- a digit by its byte
pub digit_value-byte : (b : ℕ) → 48 ≤ b → b ≤ 57 → digit_value b ≡ b - 48
digit_value-byte b low high = grind (arith, nat_tests)

-- what few digits show
few_digits : (bs : List ℕ) → IsNumeral 10 (without_minus bs) → length (without_minus bs) ≤ 18 → digits_value 10 (without_minus bs) < 10 ^ 18
few_digits bs n few =
    omega (arith, digits_value-lt 10 (without_minus bs) n.1, tens (length (without_minus bs)) 18 few)

small_is_i64 : (minus : Bool) (size : ℕ) → size < 10 ^ 18 → is_i64 (signed minus size) ≡ true
small_is_i64 true zero below = refl
small_is_i64 true (suc n) below = (Decides-is_i64 (signed true (suc n))).1 (record { sfits = omega (arith, below) })
small_is_i64 false size below = (Decides-is_i64 (pos size)).1 (record { sfits = omega (arith, below) })

size_of-some : (bs : List ℕ) (size : ℕ) → size_of bs ≡ Some size → (list_all is_ascii_digit bs ≡ true) × (size ≡ digits_value 10 bs)
size_of-some bs size e =
    elim (cases_Bool (list_all is_ascii_digit bs)) [
      | inl all ↦ let same : Some (digits_value 10 bs) ≡ Some size = sym (cond-true (list_all is_ascii_digit bs) (Some (digits_value 10 bs)) None all) ∙ e in (all, cc)
      | inr not ↦ let none : None ≡ Some size = sym (cond-false (list_all is_ascii_digit bs) (Some (digits_value 10 bs)) None not) ∙ e in cc
    ]

-- the number of few digits, with the sign that may stand first
pub int_of-few : (bs : List ℕ) (size : ℕ) → 0 < length (without_minus bs) → length (without_minus bs) ≤ 18 → size_of (without_minus bs) ≡ Some size → int_of bs ≡ Some (signed (starts_with_minus bs) size)
unfolding int_of
int_of-few bs size some few e =
    let ds = without_minus bs in
    let p = size_of-some ds size e in
    let numeral : is_numeral bs ≡ true = and_from (ltb 0 (length ds)) (list_all is_ascii_digit ds) (lt-ltb 0 (length ds) some) p.0 in
    let n = numeral_digits bs numeral in
    let same : digits_value 10 (without_leading_sign bs) ≡ size = ap (digits_value 10) (numeral_sign bs n) ∙ sym p.1 in
    let number : signed_digits_value 10 bs ≡ signed (starts_with_minus bs) size = ap (λ (k : ℕ). signed (starts_with_minus bs) k) same in
    let fits : is_i64 (signed_digits_value 10 bs) ≡ true = ap is_i64 number ∙ small_is_i64 (starts_with_minus bs) size (omega (arith, p.1, few_digits bs n few)) in
    cond-true _ (Some (signed_digits_value 10 bs)) None (and_from (is_numeral bs) (is_i64 (signed_digits_value 10 bs)) numeral fits)
    ∙ ap (λ (z : ℤ). Some z) number

-- bytes that are no digits show nothing
pub int_of-no_digits : (bs : List ℕ) → size_of (without_minus bs) ≡ None → int_of bs ≡ None
int_of-no_digits bs e =
    let ds = without_minus bs in
    elim (cases_Bool (list_all is_ascii_digit ds)) [
      | inl all ↦ let some : Some (digits_value 10 ds) ≡ None = sym (cond-true (list_all is_ascii_digit ds) (Some (digits_value 10 ds)) None all) ∙ e in cc
      | inr not ↦ int_of-none bs (and_right (ltb 0 (length ds)) (list_all is_ascii_digit ds) not)
    ]
