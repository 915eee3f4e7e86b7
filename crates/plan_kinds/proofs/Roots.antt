-- The root of a plan is its last node.
use Rattle.std.specs.Prelude.{Option, Some, slice_get}
use Rattle.std.proofs.Common.{◌≡◌, ℕ, ◌+◌, length, arith}
use Rattle.std.proofs.lemmas.Option.{slice_get_within}
use Rattle.plan_rules.specs.declared.node.Node.{Node}
use Rattle.plan_rules.specs.declared.node.Node.TheVariants.{Bulk, Part}
use Rattle.plan_kinds.specs.Built.{IsNoPart}
use Rattle.plan_shape.specs.Blueprint.{Blueprint, IsPlan}
use Rattle.plan_shape.specs.Forest.{IsPartOf}

-- the last node is no part, since a part stands before its bulk
pub last-no_part : (plan : Blueprint) → IsPlan plan → (n : ℕ) → length plan.nodes ≡ n + 1 →
    (found : Option Node) → slice_get plan.nodes n ≡ found → IsNoPart found
last-no_part plan is n last (Some (Part bulk part)) at =
    let made : IsPartOf plan.nodes n bulk part = (is.forest.each n (Part bulk part) at).made in
    let it = made.bulk_stands in
    let stands = slice_get_within plan.nodes bulk (Bulk it.0 it.1) it.2 in
    let place = made.place in
    let small = made.within in
    absurd (omega (arith, stands, place, small, last))
last-no_part plan is n last found at = tt
