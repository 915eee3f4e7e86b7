-- What a sink tells at one moment, and what was done to it between two.
use Rattle.std.specs.Prelude.{◌≡◌, ◌⊎◌, ℕ, ◌++◌, List, [], ◌∷◌, Option, IfSome, decimal}
use Rattle.exec_io.specs.Causes.{Rose}
use Rattle.exec_io.specs.Sinks.{Appends}
use Rattle.exec_io.specs.Writing.{AppendsFront}
use Rattle.exec_io.specs.Views.{SinkView}

-- The whole text was written and handed on, and no call of the sink failed.
pub record TellsAll (old new : SinkView) (text : List ℕ) : Type 0 where
  pub wrote : Appends old.written new.written text
  pub handed_on : IfSome new.outstanding (λ count. count ≡ 0)
  pub still : new.faults ≡ old.faults

-- A front of the text was written, and a call of the sink failed.
pub record TellsFront (old new : SinkView) (text : List ℕ) : Type 0 where
  pub wrote : AppendsFront old.written new.written text
  pub cause : Rose old.faults new.faults

-- The whole text was told, or a front of it where a call of the sink failed.
abbrev pub Tells : SinkView → SinkView → List ℕ → Type 0
Tells old new text = TellsAll old new text ⊎ TellsFront old new text

-- A text, a number in decimal and a line feed.
abbrev pub numbered : List ℕ → ℕ → List ℕ
numbered text number = text ++ (decimal number ++ 10 ∷ [])
