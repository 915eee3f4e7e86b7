-- Where bytes are cut.
use Rattle.std.specs.Prelude.{◌≡◌, ◌≢◌, ℕ, List, [], ◌∷◌, ◌++◌, All}
use Rattle.trace_text.specs.declared.cut.Cut.{Cut}

-- the bytes are a front without this byte, the byte, and the rest
pub record IsCutAt (byte : ℕ) (bytes : List ℕ) (c : Cut) : Type 0 where
  pub front : All (λ b. b ≢ byte) c.front.now
  pub whole : bytes ≡ (c.front.now ++ byte ∷ []) ++ c.rest.now
