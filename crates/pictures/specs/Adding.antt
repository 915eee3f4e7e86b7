-- How a text grows.
use Rattle.std.specs.Prelude.{ℕ, List}
use Rattle.std.specs.Borrow.{Bor}
use Rattle.std.specs.List.{flat_map}
-- These bytes were added: as the text of a trace grows.
pub use Rattle.trace_text.specs.Adding.{Adds}

-- Texts, one after the other.
abbrev pub joined_pieces : List (Bor (List ℕ)) → List ℕ
joined_pieces pieces = flat_map (λ piece. piece.now) pieces
