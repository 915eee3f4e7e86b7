-- What a call leaves as it was, and what it leaves with nothing to hand on.
use Rattle.std.specs.Prelude.{◌≡◌, ◌⊎◌, IfSome}
use Rattle.exec_io.specs.Views.{SinkView}
use Rattle.exec_io.specs.Views.{SourceView}

-- Nothing was read of a source, and nothing was done to a sink.
pub record IsUntouched (before after : SourceView) (old new : SinkView) : Type 0 where
  pub source_same : after ≡ before
  pub sink_same : new ≡ old

-- A sink that tells it has nothing left to hand on; or nothing was done to it.
abbrev pub IsHandedOn : SinkView → SinkView → Type 0
IsHandedOn old new = IfSome new.outstanding (λ count. count ≡ 0) ⊎ (new ≡ old)
