use Rattle.std.proofs.Common.{◌≡◌, All, map, take}
use Rattle.serde_json.specs.View.{view}
use Rattle.plan_writer.specs.Held.{IsLong}
use Rattle.plan_writer.specs.Values.{integer_data}
use Rattle.plan_notation.proofs.written.row_value.Given as goal

abbrev pub invariant-loop-number : goal.invariant-loop-number
invariant-loop-number l = record {
  each : All IsLong (take l.number-index l.number-items);
  so_far : map view l.items.items ≡ map integer_data (take l.number-index l.number-items);
}
