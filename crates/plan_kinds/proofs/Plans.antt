-- The nodes of a plan are as the laws of kinds ask.
use Rattle.std.specs.Prelude.{Contains, nat_le, slice_get}
use Rattle.std.proofs.Common.{◌≡◌, ℕ, ◌<◌, IsTrue, List, length, Option, Some, refl, arith}
use Rattle.std.proofs.lemmas.Bool.{and_parts, leb-true}
use Rattle.std.proofs.lemmas.List.Elements.{All-weaker, All-contains_itself}
use Rattle.plan_rules.specs.declared.node.Node.{Node}
use Rattle.plan_rules.specs.declared.node.Node.TheVariants.{LetValue, LetError, LetStopped, StoppedAsOptional, Part}
use Rattle.plan_rules.specs.Children.{named_by}
use Rattle.plan_kinds.specs.Built.{IsWhole, IsNoPart}
use Rattle.plan_shape.specs.declared.limits.TheConstants.{MOST_BODIES}
use Rattle.plan_shape.specs.Conditions.{is_within}
use Rattle.plan_shape.specs.Forest.{IsForest, IsPlaced}
use Rattle.plan_kinds.specs.PlanLaws.{PlansAreBuilt}
use Rattle.plan_kinds.proofs.Placing.{before, no-part}

some-bodies : (count : ℕ) → IsTrue (is_within 1 MOST_BODIES count) → 0 < count
some-bodies count within =
    omega (arith, leb-true 1 count (and_parts (nat_le 1 count) (nat_le count MOST_BODIES) within).0)

placed-whole : (nodes : List Node) (n : ℕ) (node : Node) → IsPlaced nodes n node → IsWhole nodes node
placed-whole nodes n (LetValue x pick xs) placed = some-bodies (length xs) placed.count
placed-whole nodes n (LetError x pick xs) placed = some-bodies (length xs) placed.count
placed-whole nodes n (LetStopped x pick xs) placed = some-bodies (length xs) placed.count
placed-whole nodes n (StoppedAsOptional x of) placed = placed.made
placed-whole nodes n (Part bulk part) placed = placed.made.bulk_stands
placed-whole nodes n node placed = tt

plain : (o : Option Node) → ((bulk part : ℕ) → o ≡ Some (Part bulk part) → ⊥) → IsNoPart o
plain (Some (Part bulk part)) other = other bulk part refl
plain o other = tt

pub plans-built : PlansAreBuilt
plans-built plan is_plan =
    let forest : IsForest plan.nodes = is_plan.forest in
    record {
      ordered = λ n node at.
          All-weaker (Contains (named_by node)) (λ k. k < n)
          (λ k among. before plan.nodes forest n k node at among)
          (named_by node) (All-contains_itself (named_by node));
      whole = λ n node at. placed-whole plan.nodes n node (forest.each n node at);
      no_parts = λ n node at.
          All-weaker (Contains (named_by node)) (λ k. IsNoPart (slice_get plan.nodes k))
          (λ k among. plain (slice_get plan.nodes k)
          (λ bulk part is. no-part plan.nodes forest n k bulk part node at among is))
          (named_by node) (All-contains_itself (named_by node));
    }
