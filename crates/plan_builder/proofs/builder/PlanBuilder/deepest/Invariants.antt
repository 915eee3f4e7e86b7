use Rattle.std.proofs.Common.{◌≡◌, ◌≤◌, max, map, take}
use Rattle.std.specs.Prelude.{fold}
use Rattle.plan_shape.specs.declared.limits.TheConstants.{MOST_DEPTH}
use Rattle.plan_shape.specs.Depths.{depth_of}
use Rattle.plan_builder.proofs.builder.PlanBuilder.deepest.Given as goal

abbrev pub invariant-loop-child : goal.invariant-loop-child
invariant-loop-child l = record {
  deepest : l.deepest ≡ fold max 0 (map (depth_of l.fn.self) (take l.child-index l.children));
  bound : l.deepest ≤ MOST_DEPTH;
}
