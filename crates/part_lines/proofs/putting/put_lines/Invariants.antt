use Rattle.std.proofs.Common.{◌-◌, ◌+◌, ◌≡◌, ◌≤◌, ◌++◌, ℕ, List, Some, Ok}
use Rattle.exec_io.specs.Writing.{Puts}
use Rattle.part_lines.specs.declared.limits.TheConstants.{MOST_LINES}
use Rattle.part_lines.specs.Lines.{IsPartText, lines_from}
use Rattle.part_lines.specs.Readers.{HasReadLines}
use Rattle.part_lines.proofs.putting.put_lines.Given as goal

abbrev pub invariant-lines : goal.invariant-lines
invariant-lines g l = record {
  read : (text : List ℕ) (said : List (List ℕ)) → l.fn.reader.ahead ≡ Some text → IsPartText text said
      → (done : List (List ℕ)) × (more : List (List ℕ)) × (said ≡ done ++ more)
      × HasReadLines text done l.reader
      × Puts (g.K.Sink.told l.fn.out) (g.K.Sink.told l.out) (Ok tt) (lines_from (l.before + 1) done);
  passed : l.written ≡ l.before + l.reader.passed;
  few : l.reader.passed ≤ MOST_LINES;
  texts : (g.F.Folder.told l.folder).texts ≡ (g.F.Folder.told l.fn.folder).texts;
  read_faults : (g.F.Folder.told l.folder).faults ≡ (g.F.Folder.told l.fn.folder).faults;
  write_faults : (g.K.Sink.told l.out).faults ≡ (g.K.Sink.told l.fn.out).faults;
}

abbrev pub decreases-lines : goal.decreases-lines
decreases-lines g l = MOST_LINES - l.reader.passed
