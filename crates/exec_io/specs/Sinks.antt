-- What a write does to the bytes that a sink tells, and to those that it hasn't handed on.
use Rattle.std.specs.Prelude.{◌≡◌, ℕ, ◌+◌, ◌≤◌, List, ◌++◌, Option, IfSome, IsSomeAnd}
use Rattle.exec_io.specs.Views.{SinkView}

-- What is told afterwards was told before, and has grown by these bytes. A sink may stop telling.
pub record Appends (old new : Option (List ℕ)) (bytes : List ℕ) : Type 0 where
  pub grown : IfSome new (λ after. IsSomeAnd old (λ before. after ≡ before ++ bytes))

-- The number told afterwards was told before, and has grown by this much at most.
pub record AddsAtMost (old new : Option ℕ) (count : ℕ) : Type 0 where
  pub grown : IfSome new (λ after. IsSomeAnd old (λ before. after ≤ before + count))

-- No more is kept back than before.
abbrev pub HoldsNoMore : SinkView → SinkView → Type 0
HoldsNoMore old new = AddsAtMost old.outstanding new.outstanding 0
