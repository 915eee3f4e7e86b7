-- What the calls that a run makes leave of its hand's view.
use Rattle.std.specs.Prelude.{◌≡◌, ◌+◌, ◌-◌, ◌<◌, true, List, ◌∷◌}
use Rattle.life_rules.specs.declared.event.Name.{Name}
use Rattle.life_rules.specs.declared.event.SourceRef.TheVariants.{Scope}
use Rattle.plan_shape.specs.Blueprint.{Blueprint}
use Rattle.table_rules.specs.declared.view.Rooted.{Rooted}
use Rattle.table_rules.specs.Named.{without}
use Rattle.table_rules.specs.ShownViews.{has_source_ref}
use Rattle.table_steps.specs.Claims.{IsUnnoted}
use Rattle.table_steps.specs.Seats.{Seated, view_of}
use Rattle.table_steps.specs.Views.{Board}
use Rattle.home_items.specs.declared.entry.Entry.{Entry}
use Rattle.home_items.specs.declared.item.Item.{Item}
use Rattle.exec_recv.specs.Actions.{ListsActions}
use Rattle.exec_recv.specs.Asides.{Aside, aside_of, SeesMore}
use Rattle.record_operations.specs.declared.tickets.Operation.{Operation}
use Rattle.record_operations.specs.Runs.{root_of}

-- Beside nodes, starts and steps this is what the hand's view says afterwards, and a request that
-- was seen is seen still.
pub record LeavesWith (aside : Aside) (m m' : Seated Item Entry) : Type 0 where
  pub is : aside_of (view_of m') ≡ aside
  pub sees : SeesMore m m'

-- All of this is as it was.
abbrev pub LeavesSame : Seated Item Entry → Seated Item Entry → Type 0
LeavesSame m m' = LeavesWith (aside_of (view_of m)) m m'

-- One association and one block more, whose root was begun with this start.
abbrev pub with_entered : Name → List Entry → Aside → Aside
with_entered root start aside =
    record aside {
      noted = record { name = root; start = start } ∷ aside.noted;
      made = aside.made + 1;
      claimed = aside.claimed + 1;
    }

-- One of each less: the block was given back, and the association left.
abbrev pub with_left : Name → Aside → Aside
with_left root aside =
    record aside {
      noted = without (λ (e : Rooted Entry). e.name) aside.noted root;
      made = aside.made - 1;
      released = aside.released + 1;
    }

-- The operation was started with this start, with an association and in a block of its own.
pub record EntersOperation (board : Board Blueprint) (o : Operation) (start : List Entry)
    (m m' : Seated Item Entry) : Type 0 where
  pub within : o.block.index < board.frame.layout.blocks
  pub unnoted : IsUnnoted (view_of m) (root_of board o)
  pub leaves : LeavesWith (with_entered (root_of board o) start (aside_of (view_of m))) m m'

-- A stop was requested of the scope, by this call or before it, and each callback whose run began
-- then did what it does: nothing else that the view says beside nodes, starts and steps is
-- otherwise.
pub record RequestsStop (board : Board Blueprint) (m m' : Seated Item Entry) : Type 0 where
  pub same : record (aside_of (view_of m')) { requested = (view_of m).requested }
      ≡ aside_of (view_of m)
  pub seen : has_source_ref (view_of m').seen Scope ≡ true
  pub acts : ListsActions board board.frame.over.value Scope m m'
