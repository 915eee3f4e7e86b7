-- When a node's callback is over.
use Rattle.std.specs.Prelude.{◌≡◌, true, Some, MatchOption}
use Rattle.life_rules.specs.declared.event.Name.{Name}
use Rattle.table_rules.specs.declared.view.Held.{Held}
use Rattle.table_steps.specs.Seats.{Seated, view_of}
use Rattle.table_steps.specs.Finishes.{is_settled}
use Rattle.table_steps.specs.Slots.{held_at}
use Rattle.home_items.specs.declared.entry.Entry.{Entry}
use Rattle.home_items.specs.declared.item.Item.{Item}

-- the hand holds x, and has read that its callback never was, ran or was removed
pub record HasSettled (x : Name) (m : Seated Item Entry) : Type 0 where
  pub held : Held Entry
  pub holds : held_at (view_of m) x ≡ Some held
  pub settled : MatchOption held.phase ⊥ (λ phase. is_settled phase ≡ true)
