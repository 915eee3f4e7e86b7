-- How many values an array has.
use Rattle.std.proofs.Common.{◌≡◌, suc, List, [], ◌∷◌, length, refl, ap}
use Rattle.serde_json.specs.View.{items_view}
use Rattle.serde_json.specs.declared.value.Value.{Value}
use Rattle.plan_reasons.specs.Own.{item_count}

pub counted : (values : List Value) → item_count (items_view values) ≡ length values
counted [] = refl
counted (v ∷ vs) = ap suc (counted vs)
