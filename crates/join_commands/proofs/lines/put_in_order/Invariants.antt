use Rattle.std.proofs.Common.{◌≡◌, ◌≤◌, ◌*◌, ℕ, List, Some, length, take}
use Rattle.exec_io.specs.Shelves.{Texts}
use Rattle.exec_io.specs.Sinks.{Appends}
use Rattle.part_lines.specs.declared.limits.TheConstants.{MOST_LINES}
use Rattle.part_lines.specs.Lines.{lines_from}
use Rattle.join_commands.specs.Joins.{AreWhole}
use Rattle.part_lines.specs.Streams.{in_order}
use Rattle.join_commands.proofs.lines.put_in_order.Given as goal

abbrev pub invariant-loop-at : goal.invariant-loop-at
invariant-loop-at g l = record {
  puts : (all : Texts) (parts : List (List (List ℕ)))
      → (g.F.Folder.told l.fn.folder).texts ≡ Some all → AreWhole all l.names parts
      → Appends (g.K.Sink.told l.fn.out).written (g.K.Sink.told l.out).written
      (lines_from 1 (in_order (take l.at parts)))
      × ((g.K.Sink.told l.out).faults ≡ (g.K.Sink.told l.fn.out).faults)
      × (l.written ≡ length (in_order (take l.at parts)));
  few : l.written ≤ MOST_LINES * l.at;
  texts : (g.F.Folder.told l.folder).texts ≡ (g.F.Folder.told l.fn.folder).texts;
  read_faults : (g.F.Folder.told l.folder).faults ≡ (g.F.Folder.told l.fn.folder).faults;
  write_faults : (g.K.Sink.told l.out).faults ≡ (g.K.Sink.told l.fn.out).faults;
}
