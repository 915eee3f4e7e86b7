use Rattle.std.proofs.Common.{length, ◌-◌, ◌≡◌}
use Rattle.std.specs.Io.KnownBytes.{Keeps}
use Rattle.part_lines.specs.declared.limits.TheConstants.{MOST_HELD}
use Rattle.part_lines.specs.Readers.{bytes_ahead}
use Rattle.part_lines.proofs.reader.fill_line.Given as goal

abbrev pub invariant-reads : goal.invariant-reads
invariant-reads g l = record {
  ahead : Keeps (bytes_ahead l.fn.window (g.F.Folder.left l.fn.file))
      (bytes_ahead l.window (g.F.Folder.left l.file));
  texts : (g.F.Folder.told l.folder).texts ≡ (g.F.Folder.told l.fn.folder).texts;
  faults : (g.F.Folder.told l.folder).faults ≡ (g.F.Folder.told l.fn.folder).faults;
}

abbrev pub decreases-reads : goal.decreases-reads
decreases-reads g l = MOST_HELD - length l.window
