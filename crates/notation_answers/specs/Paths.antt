-- Where a node stands in a text, by its path in the JSON.
use Rattle.std.specs.Prelude.{ℕ, zero, suc, ◌+◌, ◌-◌, ◌*◌, ◌==◌, List, [], drop, get_or, length, slice_index, Option, Some, None, codes, nat_eq, if◌then◌else◌}
use Rattle.std.specs.List.{starts_with}
use Rattle.plan_notation.specs.Frames.{SpotSeen}
use Rattle.plan_notation.specs.Reading.{TextRead}
use Rattle.notation_answers.specs.declared.path.Step.{Step}

-- what a digit says
abbrev pub number_of_digit : ℕ → ℕ
number_of_digit byte = byte - 48

-- behind so many bytes a number of one digit or two, and its bracket
abbrev pub indexed : ℕ → ℕ → List ℕ → Option Step
indexed before first items =
    if slice_index items 1 == 93
    then Some (record {
      child = first + number_of_digit (slice_index items 0);
      length = before + 2;
    })
    else Some (record {
      child = first
          + (10 * number_of_digit (slice_index items 0) + number_of_digit (slice_index items 1));
      length = before + 3;
    })

-- which of its children a path goes to first, and how many bytes say so; the child before the bar
-- stands before the bodies
abbrev pub step_of : List ℕ → Option Step
step_of path =
    if starts_with nat_eq path (codes ".children[") then indexed 10 0 (drop 10 path)
    else (if starts_with nat_eq path (codes ".bodies[") then indexed 8 1 (drop 8 path)
    else (if starts_with nat_eq path (codes ".child") then Some (record { child = 0; length = 6 })
    else (if starts_with nat_eq path (codes ".first") then Some (record { child = 0; length = 6 })
    else (if starts_with nat_eq path (codes ".second") then Some (record { child = 1; length = 7 })
    else None))))

-- the numbers of children among the nodes that were read
abbrev pub no_spot : SpotSeen
no_spot = record { at = 0; below = [] }

abbrev pub child_at : List SpotSeen → ℕ → ℕ → ℕ
child_at spots number child = get_or (get_or spots number no_spot).below child 0

-- the node behind a step, and what is left of the path; where a path has no more steps it stays
abbrev pub node_behind : Option Step → List SpotSeen → ℕ → ℕ
node_behind None spots number = number
node_behind (Some step) spots number = child_at spots number step.child

abbrev pub path_behind : Option Step → List ℕ → List ℕ
path_behind None path = path
path_behind (Some step) path = drop step.length path

-- the node at the end of a path of at most so many steps from this one
abbrev pub node_on_path : ℕ → List SpotSeen → List ℕ → ℕ → ℕ
node_on_path zero spots path number = number
node_on_path (suc most) spots path number =
    node_on_path most spots (path_behind (step_of path) path)
    (node_behind (step_of path) spots number)

-- where a node stands
abbrev pub spot_at : List SpotSeen → ℕ → ℕ
spot_at spots number = (get_or spots number no_spot).at

-- where the node of a path from the root does
abbrev pub node_spot : List SpotSeen → List ℕ → ℕ
node_spot spots path = spot_at spots (node_on_path (length path) spots path (length spots - 1))

-- where a place is told: at its node, or where it names none at the setting of the scope
abbrev pub spot_in : TextRead → List ℕ → ℕ
spot_in reads place =
    if starts_with nat_eq place (codes " at root") then node_spot reads.spots (drop 8 place)
    else reads.scope_at
