use Rattle.std.proofs.Common.{◌∷◌, length, ◌-◌, ◌≤◌, take, Ok}
use Rattle.std.specs.Fmt.{signed_decimal}
use Rattle.std.specs.List.{flat_map}
use Rattle.exec_value.specs.Bytes.{comma}
use Rattle.exec_io.specs.Writing.{Puts}
use Rattle.outcome_lines.proofs.put.put_later.Given as goal

abbrev pub invariant-loop-done : goal.invariant-loop-done
invariant-loop-done g l = record {
  within : l.done ≤ length l.numbers;
  put : Puts (g.K.Sink.told l.fn.sink) (g.K.Sink.told l.sink) (Ok tt)
      (flat_map (λ n. comma ∷ signed_decimal n) (take l.done l.numbers));
}

abbrev pub decreases-loop-done : goal.decreases-loop-done
decreases-loop-done g l = length l.numbers - l.done
