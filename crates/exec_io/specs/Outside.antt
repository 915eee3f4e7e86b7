-- What a command sees of the outside.
use Rattle.exec_io.specs.Views.{ShelfView, SourceView, SinkView}

-- What the outside tells at one moment: the shelf of files, the source of records, and the two
-- sinks.
pub record Outside : Type 0 where
  pub shelf : ShelfView
  pub records : SourceView
  pub out : SinkView
  pub notes : SinkView

abbrev pub outside : ShelfView → SourceView → SinkView → SinkView → Outside
outside shelf records out notes =
    record { shelf = shelf; records = records; out = out; notes = notes }
