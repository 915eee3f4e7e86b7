-- Names in ASCII are read as their words.
use Rattle.std.proofs.Common.{◌≡◌, ℕ, zero, suc, arith, Bool, true, List, [], ◌∷◌, ◌++◌, ◌&&◌, nat_lt}
use Rattle.std.specs.Str.{IsAscii, IsUtf8, is_utf8}
use Rattle.std.proofs.lemmas.Bool.{and_from, and_parts, cond-true, ltb-true}
use Rattle.std.proofs.lemmas.Str.{IsUtf8-from_ascii, is_utf8-from_IsUtf8}
use Rattle.plan_notation.specs.Arguments.{token_name}

abbrev pub is_ascii : List ℕ → Bool
is_ascii [] = true
is_ascii (b ∷ bytes) = nat_lt b 128 && is_ascii bytes

ascii : (bytes : List ℕ) → is_ascii bytes ≡ true → IsAscii bytes
ascii [] h i = omega arith
ascii (b ∷ bytes) h zero = ltb-true b 128 (and_parts (nat_lt b 128) (is_ascii bytes) h).0
ascii (b ∷ bytes) h (suc i) = ascii bytes (and_parts (nat_lt b 128) (is_ascii bytes) h).1 i

pub ascii_utf8 : (bytes : List ℕ) → is_ascii bytes ≡ true → IsUtf8 bytes
ascii_utf8 bytes h = IsUtf8-from_ascii bytes (ascii bytes h)

pub name_as : (bytes : List ℕ) → is_ascii bytes ≡ true → token_name bytes ≡ bytes
name_as bytes h = cond-true (is_utf8 bytes) bytes [] (is_utf8-from_IsUtf8 bytes (ascii_utf8 bytes h))

-- two in a row
pub both_ascii : (xs ys : List ℕ) → is_ascii xs ≡ true → is_ascii ys ≡ true → is_ascii (xs ++ ys) ≡ true
both_ascii [] ys h k = k
both_ascii (x ∷ xs) ys h k =
    let is = and_parts (nat_lt x 128) (is_ascii xs) h in
    and_from (nat_lt x 128) (is_ascii (xs ++ ys)) is.0 (both_ascii xs ys is.1 k)
