-- Line ends: a piece of a stream at its first line feed.
use Rattle.std.specs.Prelude.{◌≡◌, ℕ, List, [], ◌∷◌, ◌++◌}
use Rattle.record_lines.specs.declared.limits.TheConstants.{LINE_FEED}
use Rattle.record_lines.specs.declared.line_end.LineEnd.{LineEnd}
use Rattle.record_lines.specs.Lines.{HasNoLineFeed}

-- the bytes of the piece up to and with the line feed
abbrev pub through : LineEnd → List ℕ
through end = end.front.now ++ LINE_FEED ∷ []

-- the piece is the front without a line feed, a line feed, and the rest
pub record IsSplitAt (piece : List ℕ) (end : LineEnd) : Type 0 where
  pub front : HasNoLineFeed end.front.now
  pub whole : piece ≡ through end ++ end.rest.now
