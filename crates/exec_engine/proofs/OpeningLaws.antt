-- What follows for a plan that was read.
use Rattle.std.proofs.Common.{ℕ, ◌<◌, IsTrue, Option, None, Some, IfSome, sym, subst, arith}
use Rattle.std.specs.Prelude.{nat_le}
use Rattle.std.proofs.lemmas.Bool.{and_parts, leb-true}
use Rattle.plan_shape.specs.declared.limits.TheConstants.{MOST_STOP_AFTER}
use Rattle.plan_shape.specs.Blueprint.{Blueprint, IsPlan}
use Rattle.plan_shape.specs.Conditions.{is_within}
use Rattle.plan_kinds.specs.Reached.{KindsMatch}
use Rattle.plan_reader.specs.PlanFile.{IsPlanOf}
use Rattle.exec_engine.specs.Opening.{IsOpened}

-- records are counted from 1
from-one : (after : Option ℕ) → IfSome after (λ n. IsTrue (is_within 1 MOST_STOP_AFTER n)) → IfSome after (λ k. 0 < k)
from-one None within = tt
from-one (Some n) within = omega (arith, leb-true 1 n (and_parts (nat_le 1 n) (nat_le n MOST_STOP_AFTER) within).0)

-- a plan that was read, and is whole, may be run
pub opened : (bytes : _) (plan : Blueprint) → IsPlanOf bytes plan → IsPlan plan → IsOpened bytes plan
opened bytes plan is whole = record {
  is = is;
  whole = whole;
  matching =
      let P : Blueprint → Type 0 = λ p. KindsMatch p.nodes p.settings.input in
      subst P (sym is.2.same) is.2.matches.kinds;
  may_run = record {
    stop_after = from-one plan.settings.stop_after whole.settings_are.stop_after;
    rules = is.2.rules;
  };
}
