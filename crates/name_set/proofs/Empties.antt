-- A set of no marks, and the first name of a set.
use Rattle.std.proofs.Common.{◌≡◌, inl, inr, ℕ, zero, suc, ◌+◌, ◌/◌, ◌%◌, ◌<◌, ◌≤◌, ◌==◌, false, List, length, replicate, refl, ap, ◌∙◌, arith}
use Rattle.std.specs.Prelude.{slice_index}
use Rattle.std.specs.Int.{bit_at}
use Rattle.std.proofs.lemmas.Bool.{both_ways, cases_lt, false_from_ne_true}
use Rattle.std.proofs.lemmas.List.{length-replicate}
use Rattle.std.proofs.lemmas.Nat.Bits.{bit_at-zero}
use Rattle.node_tree.specs.declared.node.TheConstants.{MOST_NODES}
use Rattle.life_rules.specs.declared.limits.TheConstants.{MOST_BLOCKS}
use Rattle.table_words.specs.declared.layout.Layout.{Layout}
use Rattle.table_words.specs.Layouts.{place_number, places_in}
use Rattle.table_words.proofs.Spots.{place-within}
use Rattle.name_set.specs.Sets.{Marks, is_marked, IsSized, IsEmpty, IsLowest, NoneBelow, IsFirst}
use Rattle.name_set.proofs.Places.{Has, had, having, place-at}

zeros : (n i : ℕ) → slice_index (replicate n 0) i ≡ 0
zeros zero i = refl
zeros (suc n) zero = refl
zeros (suc n) (suc i) = zeros n i

-- lists of zeros mark nothing
module _ (l : Layout) (bits generations : List ℕ) (words : ℕ) (dull : bits ≡ replicate words 0) where
  pub sized-zeros : l.blocks ≤ MOST_BLOCKS → (1 ≤ l.nodes) × (l.nodes ≤ MOST_NODES) → words ≡ places_in l / 64 + 1 →
      generations ≡ replicate l.blocks 0 → IsSized l bits generations
  sized-zeros blocks nodes wide first =
      record {
        blocks = blocks;
        nodes = nodes;
        bits = ap length dull ∙ length-replicate words 0 ∙ wide;
        generations = ap length first ∙ length-replicate l.blocks 0;
      }

  pub unmarked : (k : ℕ) → is_marked bits k ≡ false
  unmarked k =
      ap (λ b. bit_at (slice_index b (k / 64)) (k % 64) == 1) dull
      ∙ ap (λ w. bit_at w (k % 64) == 1) (zeros words (k / 64)) ∙ ap (λ b. b == 1) (bit_at-zero (k % 64))

  pub empty-zeros : IsEmpty (record { layout = l; bits = bits; generations = generations })
  empty-zeros x =
      false_from_ne_true _
      (λ h.
      let m : Marks = record { layout = l; bits = bits; generations = generations } in
      let it : Has m x = had m x h in
      both_ways (is_marked bits (place_number l x.block x.node)) (unmarked (place_number l x.block x.node)) it.marked)

-- a set whose places aren't marked is empty
pub empty-below : (m : Marks) → IsSized m.layout m.bits m.generations → (n : ℕ) → NoneBelow m.bits n →
    places_in m.layout ≤ n → IsEmpty m
empty-below m sized n none most x =
    false_from_ne_true _
    (λ h.
    let it : Has m x = had m x h in
    let below = place-within m.layout x.block x.node it.place.block it.place.node in
    both_ways (is_marked m.bits (place_number m.layout x.block x.node))
    (none (place_number m.layout x.block x.node) (omega (arith, below, most))) it.marked)

-- the name at the first place that is marked
pub first-name : (m : Marks) (place : ℕ) → IsSized m.layout m.bits m.generations → IsFirst m.bits place →
    place < places_in m.layout →
    IsLowest m (record {
      block = place / m.layout.nodes;
      generation = slice_index m.generations (place / m.layout.nodes);
      node = place % m.layout.nodes;
    })
first-name m place sized first below =
    let at = place-at m.layout place sized.nodes.0 below in
    record {
      found = having m _ (record {
        place = record { block = at.block; node = at.node };
        marked = ap (is_marked m.bits) at.number ∙ first.marked;
        generation = refl;
      });
      lowest = λ y h.
          let it : Has m y = had m y h in
          elim (cases_lt (place_number m.layout y.block y.node) place) [
            | inl lower ↦
                absurd (both_ways (is_marked m.bits (place_number m.layout y.block y.node))
                (first.before (place_number m.layout y.block y.node) lower) it.marked)
            | inr from ↦ let number = at.number in omega (arith, from, number)
          ];
    }
