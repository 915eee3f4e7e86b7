-- How things stand when a read begins.
use Rattle.std.specs.Prelude.{◌≡◌, List, ◌∷◌, [], ◌++◌, Option, None, IfSome, IsSomeAnd, All, ℕ}
use Rattle.exec_io.specs.Views.{SinkView, SourceView}

-- What a read finds: the bytes that are left, where the source tells them, and what out tells.
pub record ReadStart : Type 0 where
  pub left : Option (List ℕ)
  pub out : SinkView

abbrev pub start_of : SourceView → SinkView → ReadStart
start_of source out = record { left = source.left; out = out }

-- The reads of a source that tells none.
abbrev pub no_reads : {S : Type 0} → S → Option (List ReadStart)
no_reads source = None

-- What is told afterwards was told before, and has grown by this read. A source may stop telling.
pub record ReadsOnce (start : ReadStart) (old new : Option (List ReadStart)) : Type 0 where
  pub grown : IfSome new (λ after. IsSomeAnd old (λ before. after ≡ before ++ start ∷ []))

-- These reads were made after those, and each is so.
pub record GrowsBy (P : ReadStart → Type 0) (before after : List ReadStart) : Type 0 where
  pub more : List ReadStart
  pub grown : after ≡ before ++ more
  pub each : All P more

-- What is told afterwards was told before, and has grown by reads each of which is so.
pub record ReadsOnly (P : ReadStart → Type 0) (old new : Option (List ReadStart)) : Type 0 where
  pub grown : IfSome new (λ after. IsSomeAnd old (λ before. GrowsBy P before after))
