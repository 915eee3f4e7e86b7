-- Which of several parts ends first, and whether lines were dealt to them in turn.
use Rattle.std.proofs.Common.{◌≡◌, inl, inr, ℕ, ◌+◌, ◌<◌, ◌≤◌, List, Some, sym, ap, ◌∙◌, arith}
use Rattle.std.specs.Prelude.{slice_get}
use Rattle.std.proofs.lemmas.Bool.{cases_order}
use Rattle.part_lines.specs.declared.tally.Tally.{Tally}
use Rattle.join_commands.specs.Turns.{AreLevel, IsFirstEnded, PartHasEnded}

pub level_is : (tallies : List Tally) (ended fewest : ℕ) (least : Tally) → slice_get tallies ended ≡ Some least → fewest ≡ least.lines → IsFirstEnded tallies ended
    → ((k : ℕ) (tally : Tally) → slice_get tallies k ≡ Some tally → (k < ended → tally.lines ≤ fewest + 1) × (ended ≤ k → tally.lines ≤ fewest)) → AreLevel tallies
level_is tallies ended fewest least here is first few = record {
  rounds = fewest;
  more = ended;
  each = λ at tally there.
      let most = few at tally there in
      let each = first.each at tally least there here in
      (λ below. omega (arith, most.0 below, each.1 below, is), λ past. omega (arith, most.1 past, each.0, is));
}

pub ended_before : (tallies : List Tally) (at ended fewest most : ℕ) (tally least : Tally) → slice_get tallies at ≡ Some tally → slice_get tallies ended ≡ Some least → fewest ≡ least.lines
    → (at < ended → most ≡ fewest + 1) → (ended ≤ at → most ≡ fewest) → most < tally.lines → PartHasEnded tallies at (most + 1) ended
ended_before tallies at ended fewest most tally least here there is below past more = record {
  tally = tally;
  least = least;
  tally_is = here;
  least_is = there;
  there = omega (arith, more);
  before = λ under. omega (arith, below under, is);
  behind = λ over. omega (arith, past over, is);
}

pub level_more : (tallies : List Tally) (at ended fewest most : ℕ) (one : Tally) → slice_get tallies at ≡ Some one → (at < ended → most ≡ fewest + 1) → (ended ≤ at → most ≡ fewest) → one.lines ≤ most
    → ((k : ℕ) (tally : Tally) → k < at → slice_get tallies k ≡ Some tally → (k < ended → tally.lines ≤ fewest + 1) × (ended ≤ k → tally.lines ≤ fewest))
    → (k : ℕ) (tally : Tally) → k < at + 1 → slice_get tallies k ≡ Some tally → (k < ended → tally.lines ≤ fewest + 1) × (ended ≤ k → tally.lines ≤ fewest)
level_more tallies at ended fewest most one here below past few each = λ k tally under is.
    elim (cases_order k at) [
      | inl e ↦
          let this : slice_get tallies at ≡ Some tally = ap (slice_get tallies) (sym e) ∙ is in
          let own : one ≡ tally = cc in
          let count : one.lines ≡ tally.lines = ap (λ (t : Tally). t.lines) own in
          (λ b. omega (arith, count, few, below (omega (arith, b, e))), λ p. omega (arith, count, few, past (omega (arith, p, e))))
      | inr (inl before) ↦ each k tally before is
      | inr (inr above) ↦ absurd (omega (arith, above, under))
    ]
