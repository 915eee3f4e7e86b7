-- What a text is, and the test of it.
use Rattle.std.proofs.Common.{◌≡◌, ℕ, ◌+◌, ◌≤◌, ◌++◌, length-append, arith, List, length, None, Some, Result, Ok, Err, subst, Decides, leb, refl}
use Rattle.std.specs.Result.{MatchResult, is_ok, result_ok}
use Rattle.std.specs.Str.{IsUtf8, is_utf8}
use Rattle.std.proofs.lemmas.Str.{IsUtf8-append, IsUtf8-from_is_utf8, is_utf8-from_IsUtf8}
use Rattle.std.proofs.lemmas.Bool.{leb-true, le-leb}
use Rattle.std.proofs.lemmas.Bool.Decides.{Decides-and, Decides-like}
use Rattle.exec_value.specs.Text.{is_text, IsText}
use Rattle.exec_value.specs.declared.limits.TheConstants.{TEXT_BYTES}

-- the test tells the fact
pub Decides-is_text : (bs : List ℕ) → Decides (is_text bs) (IsText bs)
Decides-is_text bs =
    Decides-like (is_text bs) (λ p. record { utf8 = p.0; short = p.1 }) (λ t. (t.utf8, t.short))
    (Decides-and (is_utf8 bs) (leb (length bs) TEXT_BYTES) (IsUtf8-from_is_utf8 bs, is_utf8-from_IsUtf8 bs)
    (leb-true (length bs) TEXT_BYTES, le-leb (length bs) TEXT_BYTES))

-- a reading that succeeds exactly on UTF-8 tells whether the bytes are
pub is_ok-from_utf8 : {T E : Type 0} (r : Result T E) (bs : List ℕ) (P : T → Type 0) (Q : E → Type 0) → MatchResult r (λ s. P s × IsUtf8 bs) (λ e. ¬ (IsUtf8 bs) × Q e) → Decides (is_ok r) (IsUtf8 bs)
is_ok-from_utf8 (Ok s) bs P Q h = (λ _. h.1, λ _. refl)
is_ok-from_utf8 (Err e) bs P Q h = (λ q. cc, λ u. absurd (h.0 u))

-- and gives nothing only where they aren't
pub none-from_utf8 : {T E : Type 0} (r : Result T E) (bs : List ℕ) (P : T → Type 0) (Q : E → Type 0) → MatchResult r (λ s. P s × IsUtf8 bs) (λ e. ¬ (IsUtf8 bs) × Q e) → result_ok r ≡ None → ¬ (IsUtf8 bs)
none-from_utf8 (Ok s) bs P Q h none = cc
none-from_utf8 (Err e) bs P Q h none = h.0

-- what it gives is what was read
pub some-from_utf8 : {T E : Type 0} (r : Result T E) (bs : List ℕ) (P : T → Type 0) (Q : E → Type 0) (s : T) → MatchResult r (λ s. P s × IsUtf8 bs) (λ e. ¬ (IsUtf8 bs) × Q e) → result_ok r ≡ Some s → P s
some-from_utf8 (Ok t) bs P Q s h some = let same : t ≡ s = cc in subst P same h.0
some-from_utf8 (Err e) bs P Q s h some = cc

-- two texts that are short enough together are one
pub IsText-append : (xs ys : List ℕ) → IsText xs → IsText ys → length xs + length ys ≤ TEXT_BYTES → IsText (xs ++ ys)
IsText-append xs ys x y short = record { utf8 = IsUtf8-append xs ys x.utf8 y.utf8; short = omega (arith, short, length-append xs ys) }
