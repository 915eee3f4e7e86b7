use Rattle.std.proofs.Common.{◌≡◌, ◌<◌, ◌≤◌, ℕ, length, Some}
use Rattle.std.specs.Prelude.{slice_get}
use Rattle.part_lines.specs.declared.tally.Tally.{Tally}
use Rattle.join_commands.proofs.turns.first_ended.Given as goal

abbrev pub invariant-loop-at : goal.invariant-loop-at
invariant-loop-at l = record {
  within : l.ended < length l.tallies;
  before : l.ended < l.at;
  each : (k : ℕ) (tally least : Tally) → k < l.at → slice_get l.tallies k ≡ Some tally
      → slice_get l.tallies l.ended ≡ Some least
      → (least.lines ≤ tally.lines) × (k < l.ended → least.lines < tally.lines);
}
