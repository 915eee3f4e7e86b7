-- How a text is put together.
use Rattle.std.specs.Prelude.{◌≡◌, ℕ, ◌++◌, List}

-- these bytes were added
pub record Adds (old new bytes : List ℕ) : Type 0 where
  pub added : new ≡ old ++ bytes
