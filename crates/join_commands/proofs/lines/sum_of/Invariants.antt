use Rattle.std.proofs.Common.{◌≤◌, ◌*◌, List, ℕ, take}
use Rattle.std.specs.List.{AllZip}
use Rattle.part_lines.specs.Tallies.{Tallies}
use Rattle.part_lines.specs.declared.limits.TheConstants.{MOST_LINES}
use Rattle.part_lines.specs.Streams.{in_order}
use Rattle.join_commands.proofs.lines.sum_of.Given as goal

abbrev pub invariant-loop-tally : goal.invariant-loop-tally
invariant-loop-tally l = record {
  few : l.sum.lines ≤ MOST_LINES * l.tally-index;
  sum : (parts : List (List (List ℕ))) → AllZip Tallies l.tallies parts
      → Tallies l.sum (in_order (take l.tally-index parts));
}
