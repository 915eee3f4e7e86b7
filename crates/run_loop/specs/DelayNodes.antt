-- The delays of a plan, and the places of a table, by whose numbers a loop keeps them.
use Rattle.std.specs.Prelude.{◌≡◌, ℕ, ◌<◌, ◌/◌, ◌%◌, List, length, slice_get, Some}
use Rattle.life_rules.specs.declared.event.Name.{Name}
use Rattle.plan_rules.specs.declared.node.Node.{Node}
use Rattle.plan_rules.specs.declared.node.Node.TheVariants.{Delay}
use Rattle.plan_shape.specs.Blueprint.{Blueprint}
use Rattle.table_steps.specs.Views.{Board}
use Rattle.table_words.specs.Layouts.{place_number, places_in}
use Rattle.run_loop.specs.declared.delay_node.DelayNode.{DelayNode}

-- The node of the plan is a delay of so many turns.
abbrev pub IsDelayNode : List Node → DelayNode → Type 0
IsDelayNode nodes delay = slice_get nodes delay.node ≡ Some (Delay delay.turns)

-- The list names the delays among the first so many nodes, each and no other; and among all nodes.
pub record AreDelaysBelow (nodes : List Node) (count : ℕ) (list : List DelayNode) : Type 0 where
  pub named : (n turns : ℕ) → n < count → slice_get nodes n ≡ Some (Delay turns)
      → (k : ℕ) × (slice_get list k ≡ Some (record { node = n; turns = turns }))
  pub each : (k : ℕ) (delay : DelayNode) → slice_get list k ≡ Some delay → IsDelayNode nodes delay

abbrev pub AreDelaysOf : List Node → List DelayNode → Type 0
AreDelaysOf nodes list = AreDelaysBelow nodes (length nodes) list

-- The nodes of the plan over which the table was opened.
abbrev pub nodes_of : Board Blueprint → List Node
nodes_of board = board.frame.over.value.nodes

-- The number of a place, and how many places there are.
abbrev pub place_of : Board Blueprint → ℕ → ℕ → ℕ
place_of board block node = place_number board.frame.layout block node

abbrev pub place_count : Board Blueprint → ℕ
place_count board = places_in board.frame.layout

-- The name of the node of a place, at this generation.
abbrev pub name_at : Board Blueprint → ℕ → ℕ → Name
name_at board place generation = record {
  block = place / board.frame.layout.nodes;
  generation = generation;
  node = place % board.frame.layout.nodes;
}
