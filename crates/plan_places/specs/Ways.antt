-- The path of a node of a plan by its number.
use Rattle.std.specs.Prelude.{ℕ, zero, suc, ◌==◌, nat_le, List, Option, Some, None, option_and_then, option_map, position, slice_get, if◌then◌else◌}
use Rattle.std.specs.Option.{option_map_or, option_or}
use Rattle.plan_rules.specs.declared.node.Node.{Node}
use Rattle.plan_rules.specs.declared.node.Node.TheVariants.{Then, UponError, UponStopped, LetValue, LetError, LetStopped, StartsOn, ContinuesOn, StoppedAsOptional, StoppedAsError, Bulk, WhenAll, Unstoppable, Ahead}
use Rattle.plan_places.specs.declared.path.Key.{Key}
use Rattle.plan_places.specs.declared.path.Key.TheVariants.{Child, First, Second, Children, Bodies}
use Rattle.plan_places.specs.declared.way.Step.{Step}
use Rattle.plan_places.specs.Paths.{at_step}

-- A node and all below it have numbers up to its own, and those of an earlier child are smaller. So
-- the first child whose number isn't smaller than n has node n at or below it.

-- the step to the child at a key, if node n is there
abbrev pub step_in : ℕ → Key → ℕ → Option Step
step_in n key child =
    if nat_le n child then Some (record { node = child; key = key; index = None }) else None

-- the step to the first child in an array, if node n is there
abbrev pub step_among : ℕ → Key → List ℕ → Option Step
step_among n key children =
    option_and_then (λ i. option_map (λ child. record { node = child; key = key; index = Some i })
    (slice_get children i)) (position (nat_le n) children)

-- the step from a node towards node n
abbrev pub step_to : ℕ → Node → Option Step
step_to n (Then child job) = step_in n Child child
step_to n (UponError child job) = step_in n Child child
step_to n (UponStopped child job) = step_in n Child child
step_to n (StartsOn on child) = step_in n Child child
step_to n (ContinuesOn child on) = step_in n Child child
step_to n (StoppedAsOptional child of) = step_in n Child child
step_to n (StoppedAsError child error) = step_in n Child child
step_to n (Unstoppable child) = step_in n Child child
step_to n (Bulk child job) = step_in n Child child
step_to n (LetValue child pick bodies) =
    option_or (step_in n Child child) (step_among n Bodies bodies)
step_to n (LetError child pick bodies) =
    option_or (step_in n Child child) (step_among n Bodies bodies)
step_to n (LetStopped child pick bodies) =
    option_or (step_in n Child child) (step_among n Bodies bodies)
step_to n (WhenAll children) = step_among n Children children
step_to n (Ahead first second) = option_or (step_in n First first) (step_in n Second second)
step_to n node = None

-- the path of node n, from that of a node at or above it on, at most so many levels down; of a part
-- of a bulk that of the bulk
unfoldable pub way : List Node → ℕ → ℕ → List ℕ → ℕ → List ℕ
way nodes zero at path n = path
way nodes (suc levels) at path n =
    if at == n then path
    else option_map_or
    (λ (step : Step). way nodes levels step.node (at_step path step.key step.index) n)
    (option_and_then (step_to n) (slice_get nodes at)) path
