use Rattle.std.proofs.Common.{◌≡◌, ◌<◌, ℕ, List, Some, length, vec_len}
use Rattle.exec_io.specs.Shelves.{Texts}
use Rattle.join_commands.specs.Joins.{AreWhole}
use Rattle.part_lines.specs.Streams.{AreDealt}
use Rattle.join_commands.proofs.TurnLaws.{Stands}
use Rattle.join_commands.proofs.turns.put_in_turn.Given as goal

abbrev pub invariant-loop-written : goal.invariant-loop-written
invariant-loop-written g l = record {
  long : vec_len l.readers ≡ length l.names;
  place : l.at < length l.names;
  stands : (all : Texts) (parts : List (List (List ℕ))) (lines : List (List ℕ))
      → (g.F.Folder.told l.fn.folder).texts ≡ Some all → AreWhole all l.names parts
      → AreDealt parts lines → l.total ≡ length lines
      → Stands parts lines l.at l.written l.readers.items (g.K.Sink.told l.fn.out) (g.K.Sink.told l.out);
  read_faults : (g.F.Folder.told l.folder).faults ≡ (g.F.Folder.told l.fn.folder).faults;
  write_faults : (g.K.Sink.told l.out).faults ≡ (g.K.Sink.told l.fn.out).faults;
}
