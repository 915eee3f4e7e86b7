pub mod Moves
pub mod CallbackMoves
pub mod ScopeMoves
pub mod BlockMoves
pub mod ScanMoves
pub mod SourceMoves
