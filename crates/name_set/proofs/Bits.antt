-- One bit of a list of words.
use Rattle.std.proofs.Common.{◌≡◌, ◌≢◌, ℕ, ◌+◌, ◌*◌, ◌/◌, ◌%◌, ◌^◌, ◌<◌, ◌==◌, true, false, List, length, set, inl, inr, sym, ap, ◌∙◌, arith, w64}
use Rattle.std.specs.Prelude.{slice_index}
use Rattle.std.specs.Int.{bit_at, bit_not, trailing_zeros}
use Rattle.std.specs.Int.Bits.{bit_and, bit_or}
use Rattle.std.proofs.lemmas.Bool.{cases_eq, cases_lt}
use Rattle.std.proofs.lemmas.List.{get_or-set_same, get_or-set_other}
use Rattle.std.proofs.lemmas.Nat.Bits.{bit_at-zero, bit_at_set_same, bit_at_set_other, bit_at_clear_same, bit_at_clear_other, bit_at-trailing_zeros}
use Rattle.name_set.specs.Sets.{is_marked, NoneBelow, IsFirst}

-- the word in which a place has its bit, changed
module _ (bits : List ℕ) (k new : ℕ) (within : k / 64 < length bits) where
  abbrev changed : List ℕ
  changed = set bits (k / 64) new

  pub changed-here : is_marked changed k ≡ (bit_at new (k % 64) == 1)
  changed-here = ap (λ w. bit_at w (k % 64) == 1) (get_or-set_same bits (k / 64) new 0 within)

  -- where the change kept the word's other bits, other places are marked as before
  pub changed-other : ((i : ℕ) → i < 64 → i ≢ k % 64 → bit_at new i ≡ bit_at (slice_index bits (k / 64)) i) → (j : ℕ) → j ≢ k →
      is_marked changed j ≡ is_marked bits j
  changed-other kept j ne =
      elim (cases_eq (j / 64) (k / 64)) [
        | inl same ↦
            let apart : j % 64 ≢ k % 64 = λ e. ne (omega (arith, same, e)) in
            let here : slice_index changed (j / 64) ≡ new =
            ap (slice_index changed) same ∙ get_or-set_same bits (k / 64) new 0 within in
            ap (λ w. bit_at w (j % 64) == 1) here
            ∙ ap (λ b. b == 1) (kept (j % 64) (omega arith) apart)
            ∙ ap (λ i. bit_at (slice_index bits i) (j % 64) == 1) (sym same)
        | inr other ↦
            ap (λ w. bit_at w (j % 64) == 1) (get_or-set_other bits (k / 64) (j / 64) new 0 other)
      ]

module _ (bits : List ℕ) (k : ℕ) (within : k < 64 * length bits) where
  abbrev word : ℕ
  word = slice_index bits (k / 64)

  inside : k / 64 < length bits
  inside = omega (arith, within)

  low : k % 64 < 64
  low = omega arith

  abbrev marked : List ℕ
  marked = set bits (k / 64) (bit_or word (1 * 2 ^ (k % 64) % 2 ^ 64))

  pub mark-here : is_marked marked k ≡ true
  mark-here =
      changed-here bits k (bit_or word (1 * 2 ^ (k % 64) % 2 ^ 64)) inside
      ∙ ap (λ b. b == 1) (bit_at_set_same w64 word (k % 64) low)

  pub mark-other : (j : ℕ) → j ≢ k → is_marked marked j ≡ is_marked bits j
  mark-other =
      changed-other bits k (bit_or word (1 * 2 ^ (k % 64) % 2 ^ 64)) inside
      (λ i _ ne. bit_at_set_other w64 word (k % 64) low i ne)

  abbrev unmarked : List ℕ
  unmarked = set bits (k / 64) (bit_and word (bit_not w64 (1 * 2 ^ (k % 64) % 2 ^ 64)))

  pub unmark-here : is_marked unmarked k ≡ false
  unmark-here =
      changed-here bits k (bit_and word (bit_not w64 (1 * 2 ^ (k % 64) % 2 ^ 64))) inside
      ∙ ap (λ b. b == 1) (bit_at_clear_same w64 word (k % 64) low)

  pub unmark-other : (j : ℕ) → j ≢ k → is_marked unmarked j ≡ is_marked bits j
  unmark-other =
      changed-other bits k (bit_and word (bit_not w64 (1 * 2 ^ (k % 64) % 2 ^ 64))) inside
      (λ i l ne. bit_at_clear_other w64 word (k % 64) low i l ne)

-- a word of zeros marks no place
pub none-further : (bits : List ℕ) (i : ℕ) → slice_index bits i ≡ 0 → NoneBelow bits (64 * i) → NoneBelow bits (64 * (i + 1))
none-further bits i zero none k l =
    elim (cases_lt k (64 * i)) [
      | inl before ↦ none k before
      | inr from ↦
          let at : k / 64 ≡ i = omega (arith, from, l) in
          ap (λ w. bit_at w (k % 64) == 1) (ap (slice_index bits) at ∙ zero) ∙ ap (λ b. b == 1) (bit_at-zero (k % 64))
    ]

-- and the lowest bit of a word that isn't 0 is of the first place, where none is marked before the word
pub first-found : (bits : List ℕ) (i w : ℕ) → slice_index bits i ≡ w → 0 < w → w < 2 ^ 64 → NoneBelow bits (64 * i) →
    IsFirst bits (i * 64 + trailing_zeros w64 w)
first-found bits i w is some small none =
    let t = bit_at-trailing_zeros w64 w some small in
    let low : trailing_zeros w64 w < 64 = t.0 in
    let place = i * 64 + trailing_zeros w64 w in
    let word : place / 64 ≡ i = omega (arith, low) in
    let bit : place % 64 ≡ trailing_zeros w64 w = omega (arith, low) in
    record {
      marked =
          ap (λ z. bit_at z (place % 64) == 1) (ap (slice_index bits) word ∙ is)
          ∙ ap (λ j. bit_at w j == 1) bit ∙ ap (λ b. b == 1) t.1;
      before = λ k l.
          elim (cases_lt k (64 * i)) [
            | inl before ↦ none k before
            | inr from ↦
                let at : k / 64 ≡ i = omega (arith, from, l, low) in
                let lower : k % 64 < trailing_zeros w64 w = omega (arith, from, l, low) in
                ap (λ z. bit_at z (k % 64) == 1) (ap (slice_index bits) at ∙ is) ∙ ap (λ b. b == 1) (t.2 (k % 64) lower)
          ];
    }
