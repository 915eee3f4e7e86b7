-- Numbers in decimal are tokens.
use Rattle.std.proofs.Common.{◌≡◌, ℕ, ℤ, pos, negsuc, zero, suc, ◌<◌, ◌/◌, ◌%◌, ◌==◌, ◌&&◌, Bool, true, false, List, [], ◌∷◌, ◌++◌, cond, nat_le, refl, sym, ap, ◌∙◌, arith, decimal}
use Rattle.std.specs.Fmt.{digit_glyph, digits, digits_onto, signed_decimal}
use Rattle.std.proofs.lemmas.Bool.{agree_below, agree_below_at, and_from, and_parts, cond-false, false≢true, leb-true, true≢false}
use Rattle.plan_words.specs.Bytes.{ends_word, is_blank}
use Rattle.plan_words.specs.Wholes.{nothing_follows, is_whole, row_ends, word_ends}
use Rattle.plan_words.proofs.Laying.{plain}

-- a minus or a digit
abbrev pub in_number : ℕ → Bool
in_number b = nat_le 45 b && nat_le b 57

abbrev pub are_in_number : List ℕ → Bool
are_in_number [] = true
are_in_number (b ∷ bytes) = in_number b && are_in_number bytes

within : (b : ℕ) → in_number b ≡ true → b < 58
within b h = omega (arith, leb-true b 57 (and_parts (nat_le 45 b) (nat_le b 57) h).1)

other : (q : Bool) → (true && q) ≡ false → q ≡ false
other true h = absurd (true≢false h)
other false h = refl

passes : (q r : Bool) → cond q false r ≡ true → q ≡ false
passes true r h = absurd (false≢true h)
passes false r h = refl

both : (q : Bool) (x y : List ℕ) (P : List ℕ → Type 0) → P x → P y → P (cond q x y)
both true x y P px py = px
both false x y P px py = py

-- what no such byte is
none_is : (f : ℕ → Bool) → agree_below (λ b. in_number b && f b) (λ b. false) 58 ≡ true → (b : ℕ) → in_number b ≡ true → f b ≡ false
none_is f agree b h =
    other (f b) (ap (λ (q : Bool). q && f b) (sym h) ∙ agree_below_at (λ b. in_number b && f b) (λ b. false) 58 b agree (within b h))

pub number_word : (bytes : List ℕ) → are_in_number bytes ≡ true → word_ends bytes ≡ true
number_word [] h = refl
number_word (b ∷ bytes) h =
    let is = and_parts (in_number b) (are_in_number bytes) h in
    cond-false (ends_word b) false (word_ends bytes) (none_is ends_word refl b is.0) ∙ number_word bytes is.1

pub number_in_row : (bytes rest : List ℕ) → are_in_number bytes ≡ true → row_ends (bytes ++ rest) ≡ row_ends rest
number_in_row [] rest h = refl
number_in_row (b ∷ bytes) rest h =
    let is = and_parts (in_number b) (are_in_number bytes) h in
    cond-false (b == 93) (nothing_follows (bytes ++ rest)) _ (none_is (λ (x : ℕ). x == 93) refl b is.0)
    ∙ cond-false (is_blank b) false (row_ends (bytes ++ rest)) (none_is is_blank refl b is.0)
    ∙ number_in_row bytes rest is.1

-- a word that is no text and no row
pub plain_whole : (bytes : List ℕ) → word_ends bytes ≡ true → nothing_follows bytes ≡ false → is_whole bytes ≡ true
plain_whole [] h some = absurd (true≢false some)
plain_whole (b ∷ bytes) h some =
    let is = plain b (passes (ends_word b) (word_ends bytes) h) in
    cond-false (b == 34) _ _ is.quote ∙ cond-false (b == 91) (row_ends bytes) _ is.row ∙ h

-- digits
digit_in_number : (d : ℕ) → d < 10 → in_number (digit_glyph false d) ≡ true
digit_in_number d h = agree_below_at (λ (x : ℕ). in_number (digit_glyph false x)) (λ x. true) 10 d refl h

last_digit : (n : ℕ) → n % 10 < 10
last_digit n = omega arith

digits_in_number : (k n : ℕ) (acc : List ℕ) → are_in_number acc ≡ true → are_in_number (digits_onto k 10 false n acc) ≡ true
digits_in_number zero n acc h = h
digits_in_number (suc k) n acc h =
    let more : are_in_number (digit_glyph false (n % 10) ∷ acc) ≡ true =
    and_from (in_number (digit_glyph false (n % 10))) (are_in_number acc) (digit_in_number (n % 10) (last_digit n)) h in
    both (n / 10 == 0) (digit_glyph false (n % 10) ∷ acc) (digits_onto k 10 false (n / 10) (digit_glyph false (n % 10) ∷ acc))
    (λ (bs : List ℕ). are_in_number bs ≡ true) more (digits_in_number k (n / 10) (digit_glyph false (n % 10) ∷ acc) more)

digits_some : (k n : ℕ) (acc : List ℕ) → nothing_follows acc ≡ false → nothing_follows (digits_onto k 10 false n acc) ≡ false
digits_some zero n acc h = h
digits_some (suc k) n acc h =
    both (n / 10 == 0) (digit_glyph false (n % 10) ∷ acc) (digits_onto k 10 false (n / 10) (digit_glyph false (n % 10) ∷ acc))
    (λ (bs : List ℕ). nothing_follows bs ≡ false) refl (digits_some k (n / 10) (digit_glyph false (n % 10) ∷ acc) refl)

first_some : (k n : ℕ) → nothing_follows (digits_onto (suc k) 10 false n []) ≡ false
first_some k n =
    both (n / 10 == 0) (digit_glyph false (n % 10) ∷ []) (digits_onto k 10 false (n / 10) (digit_glyph false (n % 10) ∷ []))
    (λ (bs : List ℕ). nothing_follows bs ≡ false) refl (digits_some k (n / 10) (digit_glyph false (n % 10) ∷ []) refl)

pub decimal_in_number : (n : ℕ) → are_in_number (decimal n) ≡ true
unfolding digits
decimal_in_number n = digits_in_number 64 n [] refl

decimal_some : (n : ℕ) → nothing_follows (decimal n) ≡ false
unfolding digits
decimal_some n = first_some 63 n

pub signed_in_number : (z : ℤ) → are_in_number (signed_decimal z) ≡ true
signed_in_number (pos n) = decimal_in_number n
signed_in_number (negsuc n) = decimal_in_number (suc n)

signed_some : (z : ℤ) → nothing_follows (signed_decimal z) ≡ false
signed_some (pos n) = decimal_some n
signed_some (negsuc n) = refl

pub decimal_whole : (n : ℕ) → is_whole (decimal n) ≡ true
decimal_whole n = plain_whole (decimal n) (number_word (decimal n) (decimal_in_number n)) (decimal_some n)

pub signed_whole : (z : ℤ) → is_whole (signed_decimal z) ≡ true
signed_whole z = plain_whole (signed_decimal z) (number_word (signed_decimal z) (signed_in_number z)) (signed_some z)
