-- What a text says of a plan's settings: each as JSON, and where the scope is told. `stop_after` is
-- the key and its number, or nothing.
use Rattle.std.specs.Prelude.{ℕ, List}

pub record Settings : Type 0 where
  pub version : List ℕ
  pub input : List ℕ
  pub scope : List ℕ
  pub on_error : List ℕ
  pub stop_after : List ℕ
  pub scope_at : ℕ
