-- What a hand has: the view of what it knows, and the homes that it carries, each with its slot.
use Rattle.std.specs.Prelude.{ℕ, List, Option}
use Rattle.atomic_table.specs.Table.{Me}
use Rattle.table_rules.specs.declared.view.View.{View}

abbrev pub Seated : Type 0 → Type 0 → Type 0
Seated P E = Me (Option P) (View P E)

module _ {P E : Type 0} where
  abbrev pub view_of : Seated P E → View P E
  view_of m = m.0

  abbrev pub homes_of : Seated P E → List (ℕ × Option P)
  homes_of m = m.1
