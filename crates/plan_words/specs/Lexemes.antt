-- What is seen of a token: its bytes, and how many bytes stand before it.
use Rattle.std.specs.Prelude.{ℕ, List}

pub record Lexeme : Type 0 where
  pub text : List ℕ
  pub at : ℕ
