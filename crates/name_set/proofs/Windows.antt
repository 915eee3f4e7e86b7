-- The words outside of which no place is marked.
use Rattle.std.proofs.Common.{◌≡◌, ◌⊎◌, inl, inr, ℕ, ◌+◌, ◌-◌, ◌*◌, ◌/◌, ◌%◌, ◌<◌, ◌≤◌, ◌==◌, true, false, List, length, take, drop, sym, ap, ◌∙◌, subst, arith, length-drop}
use Rattle.std.specs.Prelude.{slice_index}
use Rattle.std.specs.Int.{bit_at}
use Rattle.std.proofs.lemmas.Bool.{both_ways, cases_lt, cases_eq}
use Rattle.std.proofs.lemmas.List.{get_or-take, get_or-drop, get_or_past, length-take-le}
use Rattle.std.proofs.lemmas.Nat.Bits.{bit_at-zero}
use Rattle.name_set.specs.Sets.{is_marked, NoneBelow, IsFirst, IsWithin}

-- what these words mark
module _ (bits : List ℕ) (low high : ℕ) (within : IsWithin bits low high) where
  abbrev window : List ℕ
  window = take (high - low) (drop low bits)

  width : length window ≡ high - low
  width =
      let most = within.most in
      length-take-le (high - low) (drop low bits) (omega (arith, most, length-drop low bits))

  inside : (k : ℕ) → k < 64 * (high - low) → is_marked window k ≡ is_marked bits (low * 64 + k)
  inside k below =
      let word : (low * 64 + k) / 64 ≡ low + k / 64 = omega arith in
      let bit : (low * 64 + k) % 64 ≡ k % 64 = omega arith in
      let read : slice_index window (k / 64) ≡ slice_index bits ((low * 64 + k) / 64) =
      get_or-take (high - low) (drop low bits) (k / 64) 0 (omega (arith, below))
      ∙ get_or-drop low bits (k / 64) 0 ∙ ap (slice_index bits) (sym word) in
      ap (λ w. bit_at w (k % 64) == 1) read ∙ ap (λ i. bit_at (slice_index bits ((low * 64 + k) / 64)) i == 1) (sym bit)

  -- a place from the first of these words on is one of theirs, or isn't marked
  pub window-none : NoneBelow window (64 * length window) → NoneBelow bits (64 * length bits)
  window-none none k l =
      elim (cases_lt k (64 * low)) [
        | inl before ↦ within.below k before
        | inr from ↦ elim (cases_lt k (64 * high)) [
          | inl there ↦
              let place : low * 64 + (k - 64 * low) ≡ k = omega (arith, from) in
              let near : k - 64 * low < 64 * (high - low) = omega (arith, from, there) in
              ap (is_marked bits) (sym place) ∙ sym (inside (k - 64 * low) near)
              ∙ none (k - 64 * low) (omega (arith, near, width))
          | inr past ↦ within.above k past
        ]
      ]

  -- what is marked in them is near enough
  marked-near : (k : ℕ) → is_marked window k ≡ true → k < 64 * (high - low)
  marked-near k marked =
      elim (cases_lt k (64 * (high - low))) [
        | inl near ↦ near
        | inr past ↦
            let dull : is_marked window k ≡ false =
            ap (λ w. bit_at w (k % 64) == 1) (get_or_past window (k / 64) 0 (omega (arith, past, width)))
            ∙ ap (λ b. b == 1) (bit_at-zero (k % 64)) in
            absurd (both_ways (is_marked window k) dull marked)
      ]

  pub window-first : (place : ℕ) → IsFirst window place → IsFirst bits (low * 64 + place)
  window-first place first =
      let near = marked-near place first.marked in
      record {
        marked = sym (inside place near) ∙ first.marked;
        before = λ k l.
            elim (cases_lt k (64 * low)) [
              | inl before ↦ within.below k before
              | inr from ↦
                  let at : low * 64 + (k - 64 * low) ≡ k = omega (arith, from) in
                  let lower : k - 64 * low < place = omega (arith, from, l) in
                  ap (is_marked bits) (sym at) ∙ sym (inside (k - 64 * low) (omega (arith, lower, near)))
                  ∙ first.before (k - 64 * low) lower
            ];
      }

  -- the words that are left once the first place is known
  pub from-first : (place : ℕ) → IsFirst bits place → IsWithin bits (place / 64) high
  from-first place first =
      let below : place < 64 * high =
      elim (cases_lt place (64 * high)) [
        | inl there ↦ there
        | inr past ↦ absurd (both_ways (is_marked bits place) (within.above place past) first.marked)
      ] in
      record {
        order = omega (arith, below);
        most = within.most;
        below = λ k l. first.before k (omega (arith, l));
        above = within.above;
      }

  -- and where none is
  pub from-none : NoneBelow bits (64 * length bits) → IsWithin bits high high
  from-none none =
      let most = within.most in
      record {
        order = omega arith;
        most = within.most;
        below = λ k l. none k (omega (arith, l, most));
        above = within.above;
      }

  -- they bound what is left after a place lost its mark
  pub still-within : (old new now : List ℕ) (place : ℕ) → old ≡ bits → now ≡ new → length new ≡ length old →
      is_marked new place ≡ false → ((k : ℕ) → (k ≡ place → ⊥) → is_marked new k ≡ is_marked old k) → IsWithin now low high
  still-within old new now place was is as_long unmarked others =
      let kept : (k : ℕ) → is_marked bits k ≡ false → is_marked now k ≡ false =
      λ k dull.
      ap (λ b. is_marked b k) is
      ∙ elim (cases_eq k place) [
        | inl here ↦ ap (is_marked new) here ∙ unmarked
        | inr ne ↦ others k ne ∙ ap (λ b. is_marked b k) was ∙ dull
      ] in
      record {
        order = within.order;
        most = subst (λ n. high ≤ n) (sym (ap length is ∙ as_long ∙ ap length was)) within.most;
        below = λ k l. kept k (within.below k l);
        above = λ k l. kept k (within.above k l);
      }

  -- and with one more place wider words do
  pub wider-within : (new : List ℕ) (place first last : ℕ) → length new ≡ length bits → place < 64 * length bits →
      ((k : ℕ) → (k ≡ place → ⊥) → is_marked new k ≡ is_marked bits k) → (first ≤ place / 64) × (place / 64 < last) →
      (low < high → (first ≤ low) × (high ≤ last)) → ((n : ℕ) → high ≤ n → place / 64 < n → last ≤ n) → IsWithin new first last
  wider-within new place first last as_long wide others has keeps most =
      let old_most = within.most in
      let a = has.0 in
      let b = has.1 in
      -- a place outside of the new words is outside of the old ones, or there were none
      let unmarked : (k : ℕ) → (k < 64 * first) ⊎ (64 * last ≤ k) → is_marked bits k ≡ false =
      λ k out.
      elim (cases_lt low high) [
        | inl some ↦
            let kept = keeps some in
            elim out [
              | inl before ↦ within.below k (let c = kept.0 in omega (arith, before, c))
              | inr past ↦ within.above k (let c = kept.1 in omega (arith, past, c))
            ]
        | inr none ↦
            elim (cases_lt k (64 * low)) [
              | inl before ↦ within.below k before
              | inr from ↦ within.above k (omega (arith, from, none))
            ]
      ] in
      record {
        order = omega (arith, a, b);
        most = most (length new) (omega (arith, old_most, as_long)) (omega (arith, wide, as_long));
        below = λ k l. others k (λ e. absurd (omega (arith, l, a, e))) ∙ unmarked k (inl l);
        above = λ k l. others k (λ e. absurd (omega (arith, l, b, e))) ∙ unmarked k (inr l);
      }

-- nothing is marked in words of zeros
pub zeros-within : (bits : List ℕ) → ((k : ℕ) → is_marked bits k ≡ false) → IsWithin bits 0 0
zeros-within bits dull = record { order = omega arith; most = omega arith; below = λ k l. dull k; above = λ k l. dull k }
