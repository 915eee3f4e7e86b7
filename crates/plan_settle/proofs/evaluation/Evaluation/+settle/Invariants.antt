use Rattle.std.proofs.Common.{◌+◌, ◌*◌, map, take, false}
use Rattle.plan_rules.specs.Settle.{all_of, settle_of}
use Rattle.node_images.specs.Joined.{Tells}
use Rattle.plan_settle.proofs.evaluation.Evaluation.+settle.Given as goal

abbrev pub decreases-settle : goal.decreases-settle
decreases-settle l = 4 * l.at + 3

abbrev pub decreases-settle_one : goal.decreases-settle_one
decreases-settle_one l = 4 * l.at + 2

abbrev pub decreases-settle_hop : goal.decreases-settle_hop
decreases-settle_hop l = 4 * l.child + 4

abbrev pub decreases-settle_let : goal.decreases-settle_let
decreases-settle_let l = 4 * l.at + 1

abbrev pub decreases-settle_body : goal.decreases-settle_body
decreases-settle_body l = 4 * l.at

abbrev pub decreases-settle_all : goal.decreases-settle_all
decreases-settle_all l = 4 * l.at

abbrev pub decreases-settle_ahead : goal.decreases-settle_ahead
decreases-settle_ahead l = 4 * l.at

abbrev pub invariant-settle_all-loop-child : goal.invariant-settle_all-loop-child
invariant-settle_all-loop-child l =
    Tells l.together
    (all_of (map (λ k. settle_of l.self.plan.now.nodes k l.args l.self.number false)
    (take l.child-index l.children)))
