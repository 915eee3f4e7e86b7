-- Which of the starts that a hand owes comes first.
use Rattle.std.specs.Prelude.{◌≤◌}
use Rattle.life_rules.specs.declared.event.Name.{Name}
use Rattle.table_words.specs.declared.layout.Layout.{Layout}
use Rattle.table_rules.specs.declared.view.View.{View}
use Rattle.table_steps.specs.Owing.{Owes}
use Rattle.table_steps.specs.Slots.{slot_of}

-- of the starts that the view owes none is of a lower place
abbrev pub IsLowestOwed : {P E : Type 0} → Layout → View P E → Name → Type 0
IsLowestOwed l v x = (y : Name) → Owes v y → slot_of l x ≤ slot_of l y
