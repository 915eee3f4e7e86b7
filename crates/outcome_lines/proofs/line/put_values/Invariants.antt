use Rattle.std.proofs.Common.{◌∷◌, take, Ok}
use Rattle.std.specs.List.{flat_map}
use Rattle.exec_value.specs.Bytes.{blank}
use Rattle.outcome_lines.specs.Line.{text_of}
use Rattle.exec_io.specs.Writing.{Puts}
use Rattle.outcome_lines.proofs.line.put_values.Given as goal

abbrev pub invariant-loop-datum : goal.invariant-loop-datum
invariant-loop-datum g l =
    Puts (g.K.Sink.told l.fn.sink) (g.K.Sink.told l.sink) (Ok tt)
    (flat_map (λ datum. blank ∷ text_of datum) (take l.datum-index l.values))
