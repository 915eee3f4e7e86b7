use Rattle.std.proofs.Common.{take, Ok}
use Rattle.std.specs.List.{flat_map}
use Rattle.exec_io.specs.Writing.{Puts}
use Rattle.join_commands.proofs.refusal.put_pieces.Given as goal

abbrev pub invariant-loop-piece : goal.invariant-loop-piece
invariant-loop-piece g l =
    Puts (g.N.Sink.told l.fn.notes) (g.N.Sink.told l.notes) (Ok tt) (flat_map (λ piece. piece.now) (take l.piece-index l.pieces))
