use Rattle.std.proofs.Common.{◌≡◌, Some, take}
use Rattle.exec_io.specs.Shelves.{Texts}
use Rattle.join_commands.specs.Summaries.{HasSum}
use Rattle.join_commands.proofs.summary.sum_of_all.Given as goal

abbrev pub invariant-loop-at : goal.invariant-loop-at
invariant-loop-at g l = record {
  summed : (all : Texts) → (g.F.Folder.told l.fn.folder).texts ≡ Some all → HasSum all (take l.at l.names) l.sum;
  texts : (g.F.Folder.told l.folder).texts ≡ (g.F.Folder.told l.fn.folder).texts;
  faults : (g.F.Folder.told l.folder).faults ≡ (g.F.Folder.told l.fn.folder).faults;
}
