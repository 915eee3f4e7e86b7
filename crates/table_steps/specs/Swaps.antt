-- How a hand turns to one of its homes, and moves what is in it.
use Rattle.std.specs.Prelude.{◌≡◌, ℕ, ◌∷◌, Option, Some}
use Rattle.life_rules.specs.declared.event.Name.{Name}
use Rattle.table_words.specs.declared.layout.Layout.{Layout}
use Rattle.table_words.specs.Layouts.{OfControl, index}
use Rattle.table_rules.specs.declared.frame.Frame.{Frame}
use Rattle.table_steps.specs.Claims.{logged}
use Rattle.table_steps.specs.Seats.{Seated, homes_of, view_of}
use Rattle.table_steps.specs.Slots.{Aim, slot_of, IsSeated, home_at}
use Rattle.table_steps.specs.Sheds.{shed}
use Rattle.table_steps.specs.Releases.{is_own_slot}

-- the hand has the node's home
pub record HasHome {P E : Type 0} (l : Layout) (m : Seated P E) (x : Name) : Type 0 where
  pub inside : Option P
  pub home : home_at l m x ≡ Some inside

-- the load by which the hand turns to the node's home: it carries that first, and all others as
-- before
pub record TurnsTo {P E : Type 0} (aim : Aim) (i word : ℕ) (m m' : Seated P E) : Type 0 where
  pub inside : Option P
  pub home : home_at aim.layout m aim.name ≡ Some inside
  pub me_is : m' ≡ (
    logged i word (view_of m),
    (slot_of aim.layout aim.name, inside) ∷ shed (is_own_slot aim.layout aim.name) (homes_of m),
  )
  pub seated : IsSeated aim.tree aim.layout m'

-- the old lay in the node's home, and the new lies in it now. All other homes of the hand are as
-- before
pub record IsSwapped {P E O : Type 0} (f : Frame O) (x : Name) (new old : Option P)
    (m m' : Seated P E) : Type 0 where
  pub word : ℕ
  pub home : home_at f.layout m x ≡ Some old
  pub me_is : m' ≡ (
    logged (index f.layout (OfControl x.block x.node)) word (view_of m),
    (slot_of f.layout x, new) ∷ shed (is_own_slot f.layout x) (homes_of m),
  )
