-- Numbers in decimal begin as constants do, and have no bytes beyond ASCII.
use Rattle.std.proofs.Common.{◌≡◌, ℕ, ℤ, pos, negsuc, zero, suc, ◌<◌, ◌/◌, ◌%◌, ◌==◌, Bool, true, false, List, [], ◌∷◌, cond, nat_le, nat_lt, refl, arith, decimal}
use Rattle.std.specs.Fmt.{digit_glyph, digits, digits_onto, signed_decimal}
use Rattle.std.proofs.lemmas.Bool.{agree_below_at, and_from, and_parts, false≢true, leb-true, lt-ltb}
use Rattle.plan_words.specs.declared.kind.TokenKind.{TokenKind}
use Rattle.plan_words.specs.declared.kind.TokenKind.TheVariants as kind
use Rattle.plan_words.specs.Kinds.{kind_of_first, token_kind}
use Rattle.plan_words.proofs.Numerals.{are_in_number, in_number, signed_in_number}
use Rattle.plan_notation.specs.Arguments.{same_kind}
use Rattle.notation_laws.proofs.NamesRead.{is_ascii}

as_constant : (k : TokenKind) → same_kind k kind.Constant ≡ true → k ≡ kind.Constant
as_constant kind.Constant h = refl
as_constant k h = absurd (false≢true h)

abbrev begins_constant : List ℕ → Bool
begins_constant bytes = same_kind (token_kind bytes) kind.Constant

either : (q : Bool) (x y : List ℕ) (P : List ℕ → Type 0) → P x → P y → P (cond q x y)
either true x y P px py = px
either false x y P px py = py

digit_begins : (d : ℕ) (rest : List ℕ) → d < 10 → begins_constant (digit_glyph false d ∷ rest) ≡ true
digit_begins d rest h =
    agree_below_at (λ (x : ℕ). same_kind (kind_of_first (digit_glyph false x)) kind.Constant) (λ x. true) 10 d refl h

last_digit : (n : ℕ) → n % 10 < 10
last_digit n = omega arith

digits_begin : (k n : ℕ) (acc : List ℕ) → begins_constant acc ≡ true
    → begins_constant (digits_onto k 10 false n acc) ≡ true
digits_begin zero n acc h = h
digits_begin (suc k) n acc h =
    let more = digit_begins (n % 10) acc (last_digit n) in
    either (n / 10 == 0) (digit_glyph false (n % 10) ∷ acc)
    (digits_onto k 10 false (n / 10) (digit_glyph false (n % 10) ∷ acc))
    (λ (bs : List ℕ). begins_constant bs ≡ true) more
    (digits_begin k (n / 10) (digit_glyph false (n % 10) ∷ acc) more)

first_digit : (k n : ℕ) → begins_constant (digits_onto (suc k) 10 false n []) ≡ true
first_digit k n =
    let more = digit_begins (n % 10) [] (last_digit n) in
    either (n / 10 == 0) (digit_glyph false (n % 10) ∷ [])
    (digits_onto k 10 false (n / 10) (digit_glyph false (n % 10) ∷ []))
    (λ (bs : List ℕ). begins_constant bs ≡ true) more
    (digits_begin k (n / 10) (digit_glyph false (n % 10) ∷ []) more)

decimal_begins : (n : ℕ) → begins_constant (decimal n) ≡ true
unfolding digits
decimal_begins n = first_digit 63 n

pub number_kind : (z : ℤ) → token_kind (signed_decimal z) ≡ kind.Constant
number_kind (pos n) = as_constant (token_kind (decimal n)) (decimal_begins n)
number_kind (negsuc n) = refl

ascii_number : (bytes : List ℕ) → are_in_number bytes ≡ true → is_ascii bytes ≡ true
ascii_number [] h = refl
ascii_number (b ∷ bytes) h =
    let is = and_parts (in_number b) (are_in_number bytes) h in
    let most = leb-true b 57 (and_parts (nat_le 45 b) (nat_le b 57) is.0).1 in
    and_from (nat_lt b 128) (is_ascii bytes) (lt-ltb b 128 (omega (arith, most))) (ascii_number bytes is.1)

pub number_ascii : (z : ℤ) → is_ascii (signed_decimal z) ≡ true
number_ascii z = ascii_number (signed_decimal z) (signed_in_number z)
