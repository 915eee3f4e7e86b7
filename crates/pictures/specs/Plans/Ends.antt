-- Where a node completes, with a value or an error. A hop that finds a stop requested before its
-- record was started completes where it was started, and what wants memory may go on in the loop.
use Rattle.std.specs.Prelude.{ℕ, zero, suc, List, [], ◌∷◌, slice_get}
use Rattle.std.specs.Option.{option_map_or}
use Rattle.std.specs.List.{fold}
use Rattle.plan_rules.specs.declared.node.Node.{Node}
use Rattle.plan_kinds.specs.Runs.{run_by, bodies_of}
use Rattle.pictures.specs.declared.plans.home.Home.{Home}
use Rattle.pictures.specs.Plans.Homes.{either, home_below, home_behind}

-- where nodes complete, each by where it is started
abbrev pub Ends : Type 0
Ends = ℕ → Home → Home

-- these contexts and those where nodes complete, all started there
abbrev pub end_of_all : Ends → Home → Home → List ℕ → Home
end_of_all below start others nodes = fold (λ home n. either home (below n start)) others nodes

-- where the children of a node complete, all started there; where there is none, that is here
abbrev pub end_of_children : Ends → Home → List ℕ → Home
end_of_children below start [] = start
end_of_children below start (first ∷ later) = end_of_all below start (below first start) later

-- where those complete that a node runs: its children, and then its bodies, which are started there
abbrev pub end_of_bodies : Ends → Home → Node → Home
end_of_bodies below own node = end_of_all below own own (bodies_of node)

-- where a node completes by those below it
abbrev pub end_case : Ends → Home → Node → Home
end_case below start node =
    home_behind node
    (end_of_bodies below (end_of_children below (home_below node start) (run_by node)) node)

-- where node n completes, where it is started there, as far as so many steps down tell
unfoldable pub end_of : List Node → ℕ → ℕ → Home → Home
end_of nodes zero n start = start
end_of nodes (suc steps) n start =
    option_map_or (end_case (end_of nodes steps) start) (slice_get nodes n) start
