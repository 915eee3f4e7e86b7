-- What a run over a plan's records tells of its source and its sink, whatever layer runs their
-- operations.
use Rattle.std.specs.Prelude.{◌≡◌, ◌≢◌, ◌≤◌, ℕ, List, Option}
use Rattle.atomic_table.specs.Seated.{TableId}
use Rattle.exec_io.specs.Untouched.{IsUntouched}
use Rattle.exec_io.specs.Views.{SinkView, SourceView}
use Rattle.plan_kinds.specs.Small.{IsSmall}
use Rattle.plan_shape.specs.Blueprint.{Blueprint}
use Rattle.record_lines.specs.declared.ending.End.TheVariants.{Fault}
use Rattle.record_loop.specs.CaughtUp.{HasCaughtUp}
use Rattle.record_loop.specs.declared.ending.Ending.{Ending}
use Rattle.record_loop.specs.declared.printer.Form.{Form}
use Rattle.record_loop.specs.Ran.{Ran}
use Rattle.record_loop.specs.ReadStarts.{ReadStart, ReadsOnly}
use Rattle.record_loop.specs.Standing.{Opening}
use Rattle.record_loop.specs.Tallies.{TalliesWith}
use Rattle.run_tally.specs.Gathered.{Gathered}

-- A plan may want memory where it isn't small, in either layer.
abbrev pub WantsMemory : Blueprint → Type 0
WantsMemory plan = ¬ IsSmall plan

-- What the source and the sink of a run tell: bytes and faults, what each read found, and what was
-- written.
pub record Streams : Type 0 where
  pub source : SourceView
  pub reads : Option (List ReadStart)
  pub sink : SinkView

abbrev pub streams : SourceView → Option (List ReadStart) → SinkView → Streams
streams source reads sink = record { source = source; reads = reads; sink = sink }

-- A run of this plan on this table begins so.
abbrev pub begins : Blueprint → TableId → ℕ → Form → SinkView → Opening
begins plan table window form sink =
    record { plan = plan; table = table; window = window; form = form; sink = sink }

-- Nothing was read and nothing written: there was no memory to begin with.
pub record IsUnbegun (before after : Streams) : Type 0 where
  pub untouched : IsUntouched before.source after.source before.sink after.sink
  pub unread : after.reads ≡ before.reads

-- A run over the lines of a source ended so. Bytes were read until an end, and their records are
-- answered, each by the operation that was collected for it. When a read began, all records whose
-- line feed was read were written and handed on. The counts of the summary are those of what was
-- collected.
pub record EndsLines (opening : Opening) (before after : Streams) (collected : List Gathered)
    (ending : Ending) : Type 0 where
  pub ran : Ran WantsMemory opening before.source after.source collected after.sink ending
  pub tallied : TalliesWith collected ending.summary
  pub later : before.source.faults ≤ after.source.faults
  pub still : ending.end ≢ Fault → after.source.faults ≡ before.source.faults
  pub reads : ReadsOnly (HasCaughtUp opening before.source.left) before.reads after.reads
