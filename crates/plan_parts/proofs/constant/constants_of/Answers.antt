use Rattle.std.proofs.Common.{refl, arith}
use Rattle.std.proofs.lemmas.Grind.{common_steps}
use Rattle.serde_json.specs.View.{view}
use Rattle.plan_parts.specs.Constants.{constant_of}
use Rattle.plan_parts.proofs.ConstantLemmas.{constants_more}
use Rattle.plan_parts.proofs.constant.constants_of.Goals as goal

pub values-preserved : goal.values-preserved
values-preserved c = record {
  so_far = grind (arith, common_steps);
  constants = constants_more c.values.found c.in_ok-found.found (constant_of (view c.value-item.result))
      (view c.value-item.result) c.values.invariant.constants refl c.in_ok-found.ensures;
}
