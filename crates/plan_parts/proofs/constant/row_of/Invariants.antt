use Rattle.std.proofs.Common.{◌≡◌, ◌≤◌, [], drop, vec_len}
use Rattle.serde_json.specs.View.{items_view}
use Rattle.exec_value.specs.declared.limits.TheConstants.{NUMBERS}
use Rattle.plan_parts.specs.declared.reading.Reading.TheVariants.{Good}
use Rattle.plan_parts.specs.Constants.{numbers_from}
use Rattle.plan_parts.specs.Reading.{IfGood, mapped}
use Rattle.plan_parts.proofs.constant.row_of.Given as goal

-- what was found, and then the values that are left
abbrev pub invariant-values : goal.invariant-values
invariant-values l = record {
  so_far : numbers_from (Good []) (items_view l.values)
      ≡ numbers_from (mapped (λ v. v.items) l.found) (items_view (drop l.value-index l.values));
  few : IfGood l.found (λ v. vec_len v ≤ NUMBERS);
}
