-- Bytes that are gathered, to be written in one piece.
use Rattle.std.specs.Prelude.{ℕ, List, None, Some}
use Rattle.exec_io.specs.Views.{SinkView}

-- The bytes gathered, and how often a write didn't fit.
pub record PieceState : Type 0 where
  pub bytes : List ℕ
  pub faults : ℕ

-- A piece as a sink: it tells its bytes, and not how many of them it hasn't handed on.
abbrev pub piece_view : PieceState → SinkView
piece_view piece = record { written = Some piece.bytes; outstanding = None; faults = piece.faults }
