-- What surrounds a run.
use Rattle.std.specs.Prelude.{◌≡◌, List, Option}
use Rattle.exec_io.specs.Outside.{Outside, outside}
use Rattle.exec_io.specs.Views.{ShelfView, SourceView, SinkView}
use Rattle.record_loop.specs.ReadStarts.{ReadStart}
use Rattle.whole_run.specs.Endings.{Streams, streams}
use Rattle.exec_engine.specs.declared.system.System.{System}

-- What is told at one moment by the shelf of files, by the source of records, also what its reads
-- found so far, and by the two sinks.
pub record Surroundings : Type 0 where
  pub shelf : ShelfView
  pub records : SourceView
  pub reads : Option (List ReadStart)
  pub out : SinkView
  pub notes : SinkView

abbrev pub surroundings : ShelfView → SourceView → Option (List ReadStart) → SinkView → SinkView
    → Surroundings
surroundings shelf records reads out notes =
    record { shelf = shelf; records = records; reads = reads; out = out; notes = notes }

-- What a command on a file sees of them.
abbrev pub outside_of : Surroundings → Outside
outside_of all = outside all.shelf all.records all.out all.notes

-- What a run over records sees of them.
abbrev pub streams_in : Surroundings → Streams
streams_in all = streams all.records all.reads all.out

-- What a system tells, by what its parts tell.
abbrev pub told_by : {F S K N : Type 0} → (F → ShelfView) → (S → SourceView)
    → (S → Option (List ReadStart)) → (K → SinkView) → (N → SinkView) → System F S K N →
    Surroundings
told_by shelf records reads out notes system =
    surroundings (shelf system.shelf) (records system.records) (reads system.records)
    (out system.out) (notes system.notes)
