use Rattle.std.proofs.Common.{◌≡◌, ◌≤◌, Some, take, vec_len}
use Rattle.std.specs.Prelude.{All}
use Rattle.exec_io.specs.Shelves.{Texts}
use Rattle.part_lines.specs.declared.limits.TheConstants.{MOST_LINES}
use Rattle.join_commands.specs.Joins.{AreTallied}
use Rattle.join_commands.proofs.lines.look_through_all.Given as goal

abbrev pub invariant-loop-at : goal.invariant-loop-at
invariant-loop-at g l = record {
  whole : (all : Texts) → (g.F.Folder.told l.fn.folder).texts ≡ Some all → AreTallied all (take l.at l.names) l.tallies.items;
  many : vec_len l.tallies ≡ l.at;
  few : All (λ tally. tally.lines ≤ MOST_LINES) l.tallies.items;
  texts : (g.F.Folder.told l.folder).texts ≡ (g.F.Folder.told l.fn.folder).texts;
  faults : (g.F.Folder.told l.folder).faults ≡ (g.F.Folder.told l.fn.folder).faults;
}
