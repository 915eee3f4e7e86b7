-- Two words of one table lie at two indexes: an index tells which word it is.
use Rattle.std.proofs.Common.{◌≡◌, ℕ, ◌+◌, ◌-◌, ◌*◌, ◌/◌, ◌%◌, ◌<◌, ◌==◌, arith, sym, ap, ap₂, ◌∙◌, refl}
use Rattle.std.specs.Prelude.{nat_lt, if◌then◌else◌}
use Rattle.std.proofs.lemmas.Nat.{div-mul-add, mod-mul-add, mul-add-lt}
use Rattle.std.proofs.lemmas.Bool.{cond-false, ne_eqb, le-ltb}
use Rattle.table_words.specs.declared.layout.Layout.{Layout}
use Rattle.table_words.specs.Layouts.{Spot, TheScope, TheScopeSource, OfBlock, OfControl, OfCallback, OfSource, IsSpot, index, place_number, words_in, places_in, block_words, word_of_block}

-- the number of a place is below the number of places
pub place-within : (l : Layout) (b n : ℕ) → b < l.blocks → n < l.nodes → place_number l b n < places_in l
place-within l b n hb hn = omega (arith, mul-add-lt b l.nodes n l.blocks hb hn, native.Mathlib.Nat.mul_comm l.nodes l.blocks)

-- which of a place's words has so many before it
abbrev place_spot : ℕ → ℕ → ℕ → Spot
place_spot b n before =
    if before == 0 then OfControl b n else (
    if before == 1 then OfCallback b n else OfSource b n)

-- which word of a block has so many before it
abbrev spot_in : Layout → ℕ → ℕ → Spot
spot_in l b before =
    if nat_lt before 16 then OfBlock b else place_spot b ((before - 16) / 4) ((before - 16) % 4)

-- which word lies there
abbrev spot_at : Layout → ℕ → Spot
spot_at l i =
    if i == 0 then TheScope else (
    if i == 16 then TheScopeSource else spot_in l ((i - 32) / block_words l) ((i - 32) % block_words l))

module _ (l : Layout) (b before : ℕ) (less : before < block_words l) where
  -- behind the scope's two words it is a word of a block
  spot_at-word : spot_at l (word_of_block l b before) ≡ spot_in l b before
  spot_at-word =
      let i = word_of_block l b before in
      let inside : ℕ = b * block_words l + before in
      let off : i - 32 ≡ inside = omega arith in
      cond-false (i == 0) _ _ (ne_eqb i 0 (λ e. absurd (omega arith)))
      ∙ cond-false (i == 16) _ _ (ne_eqb i 16 (λ e. absurd (omega arith)))
      ∙ ap (λ k. spot_in l (k / block_words l) (k % block_words l)) off
      ∙ ap₂ (spot_in l) (div-mul-add b (block_words l) before less) (mod-mul-add b (block_words l) before less)

  pub word-within : b < l.blocks → word_of_block l b before < words_in l
  word-within hb =
      omega (arith, mul-add-lt b (block_words l) before l.blocks hb less, native.Mathlib.Nat.mul_comm (block_words l) l.blocks)

-- behind the words that a block has before them, four are a place's
spot_in-place : (l : Layout) (b n before : ℕ) → before < 4 → spot_in l b (16 + 4 * n + before) ≡ place_spot b n before
spot_in-place l b n before less =
    let off : 16 + 4 * n + before - 16 ≡ n * 4 + before = omega arith in
    cond-false (nat_lt (16 + 4 * n + before) 16) _ _ (le-ltb (16 + 4 * n + before) 16 (omega arith))
    ∙ ap (λ k. place_spot b (k / 4) (k % 4)) off
    ∙ ap₂ (place_spot b) (div-mul-add n 4 before less) (mod-mul-add n 4 before less)

place-word : (l : Layout) (b n before : ℕ) → n < l.nodes → before < 4 → 16 + 4 * n + before < block_words l
place-word l b n before hn less = omega (arith, hn, less)

spot_at-place : (l : Layout) (b n before : ℕ) → n < l.nodes → before < 4 →
    spot_at l (word_of_block l b (16 + 4 * n + before)) ≡ place_spot b n before
spot_at-place l b n before hn less =
    spot_at-word l b (16 + 4 * n + before) (place-word l b n before hn less) ∙ spot_in-place l b n before less

spot_at-index : (l : Layout) (x : Spot) → IsSpot l x → spot_at l (index l x) ≡ x
spot_at-index l TheScope is = refl
spot_at-index l TheScopeSource is = refl
spot_at-index l (OfBlock b) is = spot_at-word l b 15 (omega arith)
spot_at-index l (OfControl b n) is = ap (λ k. spot_at l (word_of_block l b k)) (omega arith) ∙ spot_at-place l b n 0 is.1 (omega arith)
spot_at-index l (OfCallback b n) is = ap (λ k. spot_at l (word_of_block l b k)) (omega arith) ∙ spot_at-place l b n 1 is.1 (omega arith)
spot_at-index l (OfSource b n) is = ap (λ k. spot_at l (word_of_block l b k)) (omega arith) ∙ spot_at-place l b n 2 is.1 (omega arith)

pub apart : (l : Layout) (x y : Spot) → IsSpot l x → IsSpot l y → index l x ≡ index l y → x ≡ y
apart l x y is_x is_y same =
    sym (spot_at-index l x is_x) ∙ (ap (spot_at l) same ∙ spot_at-index l y is_y)

pub within : (l : Layout) (x : Spot) → IsSpot l x → index l x < words_in l
within l TheScope is = omega arith
within l TheScopeSource is = omega arith
within l (OfBlock b) is = word-within l b 15 (omega arith) is
within l (OfControl b n) is = let n_is = is.1 in word-within l b (16 + 4 * n) (omega (arith, n_is)) is.0
within l (OfCallback b n) is = let n_is = is.1 in word-within l b (17 + 4 * n) (omega (arith, n_is)) is.0
within l (OfSource b n) is = let n_is = is.1 in word-within l b (18 + 4 * n) (omega (arith, n_is)) is.0
