use Rattle.std.proofs.Common.{◌≡◌, ◌+◌, ◌*◌, drop}
use Rattle.serde_json.specs.View.{items_view}
use Rattle.plan_places.specs.Seeking.{first_at, in_items}
use Rattle.plan_places.proofs.seeking.Search.+search.Given as goal

abbrev pub decreases-first : goal.decreases-first
decreases-first l = 8 * l.self.levels

abbrev pub decreases-in_items : goal.decreases-in_items
decreases-in_items l = 8 * l.self.levels + 1

abbrev pub decreases-in_array : goal.decreases-in_array
decreases-in_array l = 8 * l.self.levels + 2

abbrev pub decreases-in_child : goal.decreases-in_child
decreases-in_child l = 8 * l.self.levels + 2

abbrev pub decreases-in_parts : goal.decreases-in_parts
decreases-in_parts l = 8 * l.self.levels + 3

abbrev pub invariant-in_items-loop-index : goal.invariant-in_items-loop-index
invariant-in_items-loop-index l =
    in_items (first_at l.self.is_first l.self.levels l.self.sought) 0 l.path (items_view l.values)
    ≡ in_items (first_at l.self.is_first l.self.levels l.self.sought) l.index l.path
    (items_view (drop l.index l.values))
