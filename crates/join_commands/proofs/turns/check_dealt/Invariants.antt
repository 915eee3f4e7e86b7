use Rattle.std.proofs.Common.{◌≡◌, ◌<◌, ◌≤◌, ◌+◌, ℕ, Some}
use Rattle.std.specs.Prelude.{slice_get}
use Rattle.part_lines.specs.declared.tally.Tally.{Tally}
use Rattle.join_commands.proofs.turns.check_dealt.Given as goal

abbrev pub invariant-loop-at : goal.invariant-loop-at
invariant-loop-at l =
    (k : ℕ) (tally : Tally) → k < l.at → slice_get l.tallies k ≡ Some tally
    → (k < l.ended → tally.lines ≤ l.fewest + 1) × (l.ended ≤ k → tally.lines ≤ l.fewest)
