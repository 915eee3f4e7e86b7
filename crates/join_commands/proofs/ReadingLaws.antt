-- The numbers of a summary are read as they were written.
use Rattle.std.proofs.Common.{◌≡◌, ◌≢◌, ℕ, zero, suc, ◌+◌, ◌^◌, ◌≤◌, ◌<◌, ℤ, pos, negsuc, List, [], ◌∷◌, ◌++◌, length, take, drop, Bool, true, false, codes, decimal, Result, Ok, refl, sym, ap, ◌∙◌, subst, append_assoc, arith, length-append, length-take}
use Rattle.std.specs.Prelude.{cond, eqb, neg_ℤ, FitsSigned}
use Rattle.std.specs.Fmt.{signed_decimal}
use Rattle.std.specs.Int.{w128}
use Rattle.std.specs.Str.{IsAscii, IsUtf8}
use Rattle.std.specs.Str.Parse.{AllDigits, ParsesSigned}
use Rattle.std.proofs.lemmas.Bool.{eqb-false}
use Rattle.std.proofs.lemmas.Fmt.{decimal_is_IsNumeral, decimal_is_IsNumeral_wide, length-decimal-le, length-decimal-le_wide, IsAscii-from_digits}
use Rattle.std.proofs.lemmas.List.Elements.{All-head, All-tail, All-nil, All-cons}
use Rattle.std.proofs.lemmas.Result.{Ok-from_Ok_iff}
use Rattle.std.proofs.lemmas.Str.{IsUtf8-from_ascii}
use Rattle.std.proofs.lemmas.Str.Parse.{digit_from_value, numerals_by_value, parse_signed_digits, parse_signed_minus, tells_digits}
use Rattle.exec_value.specs.Bytes.{blank}
use Rattle.join_commands.specs.declared.summary.Numbers.{Numbers}
use Rattle.join_commands.specs.Summaries.{summary_text, FitSummary}
use Rattle.join_commands.specs.Unsummed.{IsNoSummary}
use Rattle.join_commands.specs.Reads.{count_before, CutsAt, HasNoBlank}
use Rattle.join_commands.proofs.SummaryLaws.{pieces_of}

abbrev NoBlank : ℕ → Type 0
NoBlank byte = byte ≢ blank

-- a text is cut at its first blank in one way
cut_once : (a b u v : List ℕ) → HasNoBlank a → HasNoBlank b → a ++ blank ∷ u ≡ b ++ blank ∷ v → (a ≡ b) × (u ≡ v)
cut_once [] [] u v fa fb e = let same : u ≡ v = cc in (refl, same)
cut_once [] (y ∷ b) u v fa fb e = let same : y ≡ blank = cc in absurd (All-head NoBlank y b fb same)
cut_once (x ∷ a) [] u v fa fb e = let same : x ≡ blank = cc in absurd (All-head NoBlank x a fa same)
cut_once (x ∷ a) (y ∷ b) u v fa fb e =
    let head : x ≡ y = cc in
    let tail : a ++ blank ∷ u ≡ b ++ blank ∷ v = cc in
    let rest = cut_once a b u v (All-tail NoBlank x a fa) (All-tail NoBlank y b fb) tail in
    let first : a ≡ b = rest.0 in
    let both : x ∷ a ≡ y ∷ b = cc in
    (both, rest.1)

pub word_cut : (text word rest : List ℕ) (end : ℕ) → CutsAt text end → HasNoBlank word → text ≡ word ++ blank ∷ rest → (take end text ≡ word) × (drop (end + 1) text ≡ rest)
word_cut text word rest end cuts free is = cut_once (take end text) word (drop (end + 1) text) rest cuts.free free (sym cuts.whole ∙ is)

pub no_cut : (text word rest : List ℕ) → HasNoBlank text → text ≡ word ++ blank ∷ rest → ⊥
no_cut [] [] rest free is = cc
no_cut [] (y ∷ word) rest free is = cc
no_cut (x ∷ text) [] rest free is = let same : x ≡ blank = cc in All-head NoBlank x text free same
no_cut (x ∷ text) (y ∷ word) rest free is = let tail : text ≡ word ++ blank ∷ rest = cc in no_cut text word rest (All-tail NoBlank x text free) tail

-- digits aren't blanks
digits_free : (ds : List ℕ) → AllDigits 10 ds → HasNoBlank ds
digits_free [] digits = All-nil NoBlank
digits_free (d ∷ ds) digits =
    let high : 48 ≤ d = (digit_from_value d digits.0).0 in
    All-cons NoBlank d ds (λ e. absurd (omega (arith, high, e))) (digits_free ds digits.1)

pub decimal_free : (n : ℕ) → n < 2 ^ 64 → HasNoBlank (decimal n)
decimal_free n held = digits_free (decimal n) (decimal_is_IsNumeral n held).0.1

-- names have none
abbrev free : List ℕ → Bool
free [] = true
free (x ∷ xs) = cond (eqb x blank) false (free xs)

free_on : (x : ℕ) (xs : List ℕ) (b : Bool) → eqb x blank ≡ b → HasNoBlank xs → cond b false true ≡ true → HasNoBlank (x ∷ xs)
free_on x xs true is rest passes = cc
free_on x xs false is rest passes = All-cons NoBlank x xs (eqb-false x blank is) rest

all_on : (b c : Bool) → cond b false c ≡ true → (cond b false true ≡ true) × (c ≡ true)
all_on true c passes = cc
all_on false c passes = (refl, passes)

all_free : (xs : List ℕ) → free xs ≡ true → HasNoBlank xs
all_free [] passes = All-nil NoBlank
all_free (x ∷ xs) passes =
    let both = all_on (eqb x blank) (free xs) passes in
    free_on x xs (eqb x blank) refl (all_free xs both.1) both.0

pub records_free : HasNoBlank (codes "records")
records_free = all_free (codes "records") refl

pub values_free : HasNoBlank (codes "values")
values_free = all_free (codes "values") refl

pub errors_free : HasNoBlank (codes "errors")
errors_free = all_free (codes "errors") refl

pub stopped_free : HasNoBlank (codes "stopped")
stopped_free = all_free (codes "stopped") refl

pub no_memory_free : HasNoBlank (codes "out-of-memory")
no_memory_free = all_free (codes "out-of-memory") refl

pub bad_free : HasNoBlank (codes "bad")
bad_free = all_free (codes "bad") refl

pub sum_free : HasNoBlank (codes "sum")
sum_free = all_free (codes "sum") refl

-- what stands behind each number, without the line feed
abbrev pub from_sum : Numbers → List ℕ
from_sum n = codes "sum" ++ (blank ∷ signed_decimal n.sum)

abbrev pub from_stopped : Numbers → List ℕ
from_stopped n =
    count_before (codes "stopped") n.stopped (count_before (codes "out-of-memory") n.no_memory
    (count_before (codes "bad") n.bad (from_sum n)))

abbrev pub from_records : Numbers → List ℕ
from_records n =
    count_before (codes "records") n.records (count_before (codes "values") n.values
    (count_before (codes "errors") n.errors (from_stopped n)))

-- pieces in pairs, one pair after another, are the pieces one after another
pairs : (a b c d e f g h i j k l m n o : List ℕ)
    → ((((((((a ++ b) ++ (c ++ d)) ++ (e ++ f)) ++ (g ++ h)) ++ (i ++ j)) ++ (k ++ l)) ++ m) ++ n) ++ o
    ≡ (a ++ (b ++ (c ++ (d ++ (e ++ (f ++ (g ++ (h ++ (i ++ (j ++ (k ++ (l ++ (m ++ n))))))))))))) ++ o
pairs a b c d e f g h i j k l m n o = simp append_assoc

pub line_is : (n : Numbers) → summary_text n ≡ from_records n ++ codes "\n"
line_is n =
    pieces_of n ∙ pairs (codes "records ") (decimal n.records) (codes " values ") (decimal n.values)
    (codes " errors ") (decimal n.errors) (codes " stopped ") (decimal n.stopped)
    (codes " out-of-memory ") (decimal n.no_memory) (codes " bad ") (decimal n.bad)
    (codes " sum ") (signed_decimal n.sum) (codes "\n")

-- a summary isn't long
lengths : (a b c d e f g h i j k l m n o : List ℕ)
    → length (((((((((a ++ b) ++ (c ++ d)) ++ (e ++ f)) ++ (g ++ h)) ++ (i ++ j)) ++ (k ++ l)) ++ m) ++ n) ++ o)
    ≡ (length a + length c + length e + length g + length i + length k + length m + length o)
    + (length b + length d + length f + length h + length j + length l) + length n
lengths a b c d e f g h i j k l m n o = simp length-append (omega arith)

few_digits : (n : ℕ) → n < 2 ^ 64 → length (decimal n) ≤ 20
few_digits n held = length-decimal-le 20 n (omega arith) (omega (arith, held)) held

few_signed : (z : ℤ) → FitsSigned w128 z → length (signed_decimal z) ≤ 41
few_signed (pos n) fits =
    let most : length (decimal n) ≤ 40 = length-decimal-le_wide 40 n (omega arith) (omega (arith, fits.sfits)) (omega (arith, fits.sfits)) in
    omega (arith, most)
few_signed (negsuc n) fits =
    let most : length (decimal (suc n)) ≤ 40 = length-decimal-le_wide 40 (suc n) (omega arith) (omega (arith, fits.sfits)) (omega (arith, fits.sfits)) in
    omega (arith, most)

pub short_summary : (n : Numbers) → FitSummary n → length (summary_text n) < 1024
short_summary n fits =
    let long = ap length (pieces_of n) ∙ lengths (codes "records ") (decimal n.records) (codes " values ") (decimal n.values)
    (codes " errors ") (decimal n.errors) (codes " stopped ") (decimal n.stopped)
    (codes " out-of-memory ") (decimal n.no_memory) (codes " bad ") (decimal n.bad)
    (codes " sum ") (signed_decimal n.sum) (codes "\n") in
    omega (
      arith,
      long,
      few_digits n.records fits.records,
      few_digits n.values fits.values,
      few_digits n.errors fits.errors,
      few_digits n.stopped fits.stopped,
      few_digits n.no_memory fits.no_memory,
      few_digits n.bad fits.bad,
      few_signed n.sum fits.sum,
    )

-- a text that is as long is none
pub no_summary : (text : List ℕ) → 1024 ≤ length text → IsNoSummary text
no_summary text long numbers fits same = absurd (omega (arith, short_summary numbers fits, ap length same, long))

pub no_summary_front : (text buf : List ℕ) (count most : ℕ) → take count buf ≡ take most text → count ≤ length buf → most ≤ count → 1024 ≤ most → IsNoSummary text
no_summary_front text buf count most same within full long =
    no_summary text (omega (arith, ap length same, length-take most text, length-take count buf))

-- texts with the same end are the same before it
same_front : (a b tail : List ℕ) → a ++ tail ≡ b ++ tail → a ≡ b
same_front [] [] tail e = refl
same_front [] (y ∷ b) tail e = absurd (omega (arith, ap length e, length-append b tail))
same_front (x ∷ a) [] tail e = absurd (omega (arith, ap length e, length-append a tail))
same_front (x ∷ a) (y ∷ b) tail e =
    let head : x ≡ y = cc in
    let rest : a ++ tail ≡ b ++ tail = cc in
    let same : a ≡ b = same_front a b tail rest in
    cc

pub line_of_text : (n : Numbers) (text line : List ℕ) → text ≡ line ++ codes "\n" → text ≡ summary_text n → line ≡ from_records n
line_of_text n text line is same = same_front line (from_records n) (codes "\n") (sym is ∙ (same ∙ line_is n))

-- a signed number of 128 bits is read as it was written
pub signed_ascii : (z : ℤ) → FitsSigned w128 z → IsAscii (signed_decimal z)
signed_ascii (pos n) fits i = IsAscii-from_digits (decimal n) (decimal_is_IsNumeral_wide n (omega (arith, fits.sfits))).0.1 i
signed_ascii (negsuc n) fits i = by_place i
  where
    by_place : IsAscii (45 ∷ decimal (suc n))
    by_place zero = omega arith
    by_place (suc k) = IsAscii-from_digits (decimal (suc n)) (decimal_is_IsNumeral_wide (suc n) (omega (arith, fits.sfits))).0.1 k

pub signed_utf8 : (z : ℤ) → FitsSigned w128 z → IsUtf8 (signed_decimal z)
signed_utf8 z fits = IsUtf8-from_ascii (signed_decimal z) (signed_ascii z fits)

pub parse_signed_wide : {E : Type 0} (z : ℤ) (bs : List ℕ) (r : Result ℤ E) → FitsSigned w128 z → bs ≡ signed_decimal z → ParsesSigned w128 10 bs r → r ≡ Ok z
parse_signed_wide (pos n) bs r fits is h =
    let k = decimal_is_IsNumeral_wide n (omega (arith, fits.sfits)) in
    let read = parse_signed_digits (numerals_by_value _ tells_digits) w128 (decimal n) r (subst (λ l. ParsesSigned w128 10 l r) is h) k.0.1 in
    Ok-from_Ok_iff r _ _ read (k.0.0, omega (arith, k.1, fits.sfits)) ∙ ap (λ m. Ok (pos m)) k.1
parse_signed_wide (negsuc n) bs r fits is h =
    let k = decimal_is_IsNumeral_wide (suc n) (omega (arith, fits.sfits)) in
    let read = parse_signed_minus (numerals_by_value _ tells_digits) w128 (45 ∷ decimal (suc n)) r (subst (λ l. ParsesSigned w128 10 l r) is h) refl in
    Ok-from_Ok_iff r _ _ read (k.0.1, k.0.0, omega (arith, k.1, fits.sfits)) ∙ ap (λ m. Ok (neg_ℤ (pos m))) k.1

-- numbers are what they consist of
abbrev made : ℕ → ℕ → ℕ → ℕ → ℕ → ℕ → ℤ → Numbers
made a b c d e f g = record { records = a; values = b; errors = c; stopped = d; no_memory = e; bad = f; sum = g }

pub same_numbers : (a b c d e f : ℕ) (g : ℤ) (n : Numbers) → a ≡ n.records → b ≡ n.values → c ≡ n.errors → d ≡ n.stopped → e ≡ n.no_memory → f ≡ n.bad → g ≡ n.sum
    → made a b c d e f g ≡ n
same_numbers a b c d e f g n ea eb ec ed ee ef eg =
    ap (λ x. made x b c d e f g) ea ∙ (ap (λ x. made n.records x c d e f g) eb ∙ (ap (λ x. made n.records n.values x d e f g) ec ∙ (ap (λ x. made n.records n.values n.errors x e f g) ed
    ∙ (ap (λ x. made n.records n.values n.errors n.stopped x f g) ee ∙ (ap (λ x. made n.records n.values n.errors n.stopped n.no_memory x g) ef
    ∙ ap (λ x. made n.records n.values n.errors n.stopped n.no_memory n.bad x) eg)))))
