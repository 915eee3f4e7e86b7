use Rattle.std.proofs.Common.{◌≡◌, ◌+◌, ◌*◌, take}
use Rattle.pictures.specs.Plans.Ends.{end_of, end_of_all}
use Rattle.pictures.proofs.plans.ends.+ends.Given as goal

abbrev pub decreases-end_of : goal.decreases-end_of
decreases-end_of l = 3 * l.steps

abbrev pub decreases-end_of_children : goal.decreases-end_of_children
decreases-end_of_children l = 3 * l.steps + 2

abbrev pub decreases-end_of_all : goal.decreases-end_of_all
decreases-end_of_all l = 3 * l.steps + 1

abbrev pub invariant-end_of_all-loop-node : goal.invariant-end_of_all-loop-node
invariant-end_of_all-loop-node l =
    l.home ≡ end_of_all (end_of l.plan.nodes l.steps) l.start l.fn.others (take l.node-index l.nodes)
