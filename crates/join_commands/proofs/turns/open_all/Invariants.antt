use Rattle.std.proofs.Common.{◌≡◌, ℕ, List, Some, take, vec_len}
use Rattle.exec_io.specs.Shelves.{Texts}
use Rattle.join_commands.specs.Joins.{AreWhole}
use Rattle.join_commands.specs.Turns.{AreAtStarts}
use Rattle.join_commands.proofs.turns.open_all.Given as goal

abbrev pub invariant-loop-at : goal.invariant-loop-at
invariant-loop-at g l = record {
  starts : (all : Texts) (parts : List (List (List ℕ)))
      → (g.F.Folder.told l.fn.folder).texts ≡ Some all → AreWhole all l.names parts
      → AreAtStarts (take l.at parts) l.readers.items;
  many : vec_len l.readers ≡ l.at;
  texts : (g.F.Folder.told l.folder).texts ≡ (g.F.Folder.told l.fn.folder).texts;
  faults : (g.F.Folder.told l.folder).faults ≡ (g.F.Folder.told l.fn.folder).faults;
}
