-- The root of a plan runs with the record's datum.
use Rattle.std.specs.Prelude.{Some, slice_get}
use Rattle.std.proofs.Common.{◌≡◌, ◌+◌, ◌-◌, [], ◌∷◌, length, refl, arith}
use Rattle.exec_value.specs.Kinds.{HasKind}
use Rattle.exec_value.specs.declared.data.Datum.{Datum}
use Rattle.plan_kinds.specs.Reached.{Reaches}
use Rattle.plan_kinds.specs.Runnable.{RunsWith}
use Rattle.plan_kinds.proofs.Roots.{last-no_part}
use Rattle.plan_shape.specs.Blueprint.{Blueprint, IsPlan}

pub root-runs : (plan : Blueprint) → IsPlan plan → (datum : Datum) → HasKind datum plan.settings.input →
    RunsWith plan (length plan.nodes - 1) (datum ∷ [])
root-runs plan is datum kind =
    let n = length plan.nodes - 1 in
    let some = is.some in
    let last : length plan.nodes ≡ n + 1 = omega (arith, some) in
    record {
      shape = Some (plan.settings.input ∷ []);
      reached = Reaches.root last;
      arguments = (kind, tt);
      within = omega (arith, some);
      no_part = last-no_part plan is n last (slice_get plan.nodes n) refl;
    }
