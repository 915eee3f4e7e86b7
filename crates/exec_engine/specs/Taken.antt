-- Which records a run takes.
use Rattle.std.specs.Prelude.{◌≡◌, ℕ, List, [], IfSome, IsSomeAnd}
use Rattle.exec_value.specs.declared.kinds.Kind.{Kind}
use Rattle.exec_io.specs.Views.{SourceView}
use Rattle.record_lines.specs.declared.ending.End.{End}
use Rattle.record_lines.specs.declared.ending.End.TheVariants.{Ended}
use Rattle.record_lines.specs.Records.{records_of, IsBeyond}
use Rattle.record_loop.specs.CaughtUp.{HasCaughtUp}
use Rattle.record_loop.specs.Generated.{generated_lines}
use Rattle.record_loop.specs.ReadStarts.{ReadsOnly}
use Rattle.record_loop.specs.Reading.{Reads}
use Rattle.record_loop.specs.Standing.{Opening}
use Rattle.whole_run.specs.Endings.{Streams}
use Rattle.exec_engine.specs.declared.task.Origin.{Origin}
use Rattle.exec_engine.specs.declared.task.Origin.TheVariants.{Source, Generated}

-- The records are those of the bytes that were read of a source until this end, but for this rest,
-- which was read and not taken.
pub record TakesRead (before after : SourceView) (end : End) (rest : List ℕ)
    (records : List (List ℕ)) : Type 0 where
  pub bytes : List ℕ
  pub reads : Reads before.left after.left end bytes rest
  pub are : records ≡ records_of bytes end

-- The records are so many generated ones, and nothing is read.
pub record TakesGenerated (kind : Kind) (count : ℕ) (before after : SourceView) (end : End)
    (rest : List ℕ) (records : List (List ℕ)) : Type 0 where
  pub ended : end ≡ Ended
  pub none : rest ≡ []
  pub same : after ≡ before
  pub are : records ≡ generated_lines kind count

abbrev pub Takes : Origin → Kind → SourceView → SourceView → End → List ℕ → List (List ℕ) → Type 0
Takes (Source form) kind before after end rest records = TakesRead before after end rest records
Takes (Generated count) kind before after end rest records =
    TakesGenerated kind count before after end rest records

-- Nothing was read of the source.
pub record IsSourceUnread (before after : Streams) : Type 0 where
  pub source_same : after.source ≡ before.source
  pub reads_same : after.reads ≡ before.reads

-- Of a source nothing is said here; for generated records nothing is read.
abbrev pub LeavesSource : Origin → Streams → Streams → Type 0
LeavesSource (Source form) before after = Unit {0}
LeavesSource (Generated count) before after = IsSourceUnread before after

-- When a read of the source began, the outcome of each record whose line feed was read was written
-- and handed on, or kept for the one line for all, and no write was lost. For generated records
-- nothing is read.
abbrev pub OutCaughtUp : Origin → Opening → Streams → Streams → Type 0
OutCaughtUp (Source form) opening before after =
    ReadsOnly (HasCaughtUp opening before.source.left) before.reads after.reads
OutCaughtUp (Generated count) opening before after = IsSourceUnread before after

-- A source that tells its bytes has more than a run takes. There are never too many generated ones.
abbrev pub SourcePassesLimit : Origin → SourceView → Type 0
SourcePassesLimit (Source form) before = IfSome before.left IsBeyond
SourcePassesLimit (Generated count) before = ⊥

-- A source that tells its bytes has no more than a run takes.
abbrev pub KeepsLimit : Origin → SourceView → Type 0
KeepsLimit (Source form) before = IfSome before.left (λ bytes. ¬ IsBeyond bytes)
KeepsLimit (Generated count) before = Unit {0}

-- The source tells its bytes, and they are no more than a run takes.
abbrev pub IsWithin : Origin → SourceView → Type 0
IsWithin (Source form) before = IsSomeAnd before.left (λ bytes. ¬ IsBeyond bytes)
IsWithin (Generated count) before = Unit {0}

-- The records that a run is to take have this property, of a source that tells its bytes.
abbrev pub OfRecords : Origin → Kind → SourceView → (List (List ℕ) → Type 0) → Type 0
OfRecords (Source form) kind before P = IsSomeAnd before.left (λ bytes. P (records_of bytes Ended))
OfRecords (Generated count) kind before P = P (generated_lines kind count)
