-- What is used of a plan's nodes holds of every plan.
use Rattle.std.proofs.Common.{◌<◌}
use Rattle.std.proofs.lemmas.List.Elements.{All-weaker}
use Rattle.std.proofs.lemmas.Option.{slice_get_within}
use Rattle.plan_rules.specs.Children.{named_by}
use Rattle.plan_shape.specs.Blueprint.{Blueprint, IsPlan}
use Rattle.plan_shape.proofs.DepthLemmas.{depth_of-positive}
use Rattle.plan_writer.proofs.Prefixes.{depth-above}
use Rattle.plan_writer.proofs.Shapes.{IsBelow, named-written, node_data-at}
use Rattle.plan_notation.specs.NodeTokens.{HasHeldNodes}
use Rattle.notation_laws.proofs.Plans.{AreNodes}

pub plan_nodes : (plan : Blueprint) → IsPlan plan → HasHeldNodes plan.nodes → AreNodes plan.nodes
plan_nodes plan is held = record {
  below = named-written plan is;
  deeper = depth-above plan.nodes is.forest;
  shallow = λ n node at. (is.forest.each n node at).shallow;
  deep = λ n node at. depth_of-positive plan.nodes n (slice_get_within plan.nodes n node at);
  object = λ n node at. node_data-at plan.nodes n node at
      (All-weaker (IsBelow plan.nodes n) (λ c. c < n) (λ c below. below.1) (named_by node) (named-written plan is n node at));
  held = held;
}
