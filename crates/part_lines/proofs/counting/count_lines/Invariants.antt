use Rattle.std.proofs.Common.{◌-◌, ◌≡◌, ◌≤◌, ℕ, List, Some}
use Rattle.part_lines.specs.declared.limits.TheConstants.{MOST_LINES}
use Rattle.part_lines.specs.Readers.{HasReadLines}
use Rattle.part_lines.specs.Tallies.{Tallies}
use Rattle.part_lines.proofs.counting.count_lines.Given as goal

abbrev pub invariant-lines : goal.invariant-lines
invariant-lines g l = record {
  read : (text : List ℕ) → l.fn.reader.ahead ≡ Some text
      → (said : List (List ℕ)) × HasReadLines text said l.reader × Tallies l.tally said;
  passed : l.reader.passed ≡ l.tally.lines;
  few : l.tally.lines ≤ MOST_LINES;
  texts : (g.F.Folder.told l.folder).texts ≡ (g.F.Folder.told l.fn.folder).texts;
  faults : (g.F.Folder.told l.folder).faults ≡ (g.F.Folder.told l.fn.folder).faults;
}

abbrev pub decreases-lines : goal.decreases-lines
decreases-lines g l = MOST_LINES - l.reader.passed
