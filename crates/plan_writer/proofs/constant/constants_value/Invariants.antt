use Rattle.std.proofs.Common.{◌≡◌, All, map, take}
use Rattle.serde_json.specs.View.{view}
use Rattle.exec_value.specs.Kinds.{IsConstant}
use Rattle.plan_writer.specs.Held.{IsHeldDatum}
use Rattle.plan_writer.specs.Values.{constant_data}
use Rattle.plan_writer.proofs.constant.constants_value.Given as goal

abbrev pub invariant-loop-datum : goal.invariant-loop-datum
invariant-loop-datum l = record {
  constants : All IsConstant l.datum-items;
  each : All IsHeldDatum (take l.datum-index l.datum-items);
  so_far : map view l.items.items ≡ map constant_data (take l.datum-index l.datum-items);
}
