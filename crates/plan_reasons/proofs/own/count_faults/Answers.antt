use Rattle.std.proofs.Common.{◌≡◌, true, false, sym, ap, ◌∙◌, refl}
use Rattle.serde_json.specs.View.{items_view}
use Rattle.plan_shape.specs.Conditions.{is_within}
use Rattle.plan_reasons.specs.Own.{item_count}
use Rattle.plan_reasons.proofs.Counted.{counted}
use Rattle.plan_reasons.proofs.own.count_faults.Goals as goal

pub returns-then-is_within : goal.returns-then-is_within
returns-then-is_within c =
    let is : is_within c.args.fewest c.args.most (item_count (items_view c.args.nodes.now)) ≡ true =
    ap (is_within c.args.fewest c.args.most) (counted c.args.nodes.now) ∙ sym c.is_within.ensures ∙ c.if-is_within.true in
    rw is refl

pub returns-else-is_within : goal.returns-else-is_within
returns-else-is_within c =
    let is : is_within c.args.fewest c.args.most (item_count (items_view c.args.nodes.now)) ≡ false =
    ap (is_within c.args.fewest c.args.most) (counted c.args.nodes.now) ∙ sym c.is_within.ensures ∙ c.if-is_within.false in
    rw is refl
