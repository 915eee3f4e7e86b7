use Rattle.std.proofs.Common.{take}
use Rattle.pictures.specs.Adding.{Adds, joined_pieces}
use Rattle.pictures.proofs.text.put_all.Given as goal

abbrev pub invariant-loop-piece : goal.invariant-loop-piece
invariant-loop-piece l = Adds l.initial.text.items l.text.items (joined_pieces (take l.piece-index l.pieces))
