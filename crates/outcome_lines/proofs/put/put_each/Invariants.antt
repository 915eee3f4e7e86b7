use Rattle.std.proofs.Common.{◌∷◌, take, Ok}
use Rattle.std.specs.Fmt.{signed_decimal}
use Rattle.std.specs.List.{flat_map}
use Rattle.exec_value.specs.Bytes.{comma}
use Rattle.exec_io.specs.Writing.{Puts}
use Rattle.outcome_lines.proofs.put.put_each.Given as goal

abbrev pub invariant-loop-number : goal.invariant-loop-number
invariant-loop-number g l =
    Puts (g.K.Sink.told l.fn.sink) (g.K.Sink.told l.sink) (Ok tt)
    (flat_map (λ n. comma ∷ signed_decimal n) (take l.number-index l.numbers))
