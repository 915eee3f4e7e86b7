use Rattle.std.proofs.Common.{◌≡◌, drop}
use Rattle.serde_json.specs.View.{items_view}
use Rattle.plan_parts.specs.Constants.{constants_of, constants_from}
use Rattle.plan_parts.specs.Reading.{IfGood}
use Rattle.std.specs.Prelude.{All}
use Rattle.exec_value.specs.Kinds.{IsConstant}
use Rattle.plan_parts.proofs.constant.constants_of.Given as goal

-- what was found, and then the values that are left
abbrev pub invariant-values : goal.invariant-values
invariant-values l = record {
  so_far : constants_of (items_view l.values)
      ≡ constants_from l.found (items_view (drop l.value-index l.values));
  constants : IfGood l.found (All IsConstant);
}
