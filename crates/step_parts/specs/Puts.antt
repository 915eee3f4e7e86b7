-- How the start of an awaited child comes into its home.
use Rattle.std.specs.Prelude.{◌≡◌, ℕ, suc, ◌<◌, ℤ, false, List, ◌∷◌, length, slice_index}
use Rattle.life_rules.specs.declared.event.Name.{Name}
use Rattle.life_rules.specs.Views.{beside}
use Rattle.plan_shape.specs.Blueprint.{Blueprint}
use Rattle.table_rules.specs.declared.view.Owed.{Owed}
use Rattle.table_steps.specs.Views.{Board}
use Rattle.table_steps.specs.Seats.{Seated, view_of}
use Rattle.table_steps.specs.Slots.{has_seen}
use Rattle.op_slot.specs.Puts.{IsPut}
use Rattle.home_items.specs.declared.entry.Entry.{Entry}
use Rattle.home_items.specs.declared.item.Item.{Item}
use Rattle.home_items.specs.Contents.{Start}
use Rattle.home_items.specs.Entries.{plan_of, node_of, drawn_of}
use Rattle.home_items.specs.Starts.{BeginsBelow, NeedsNoRequest}
use Rattle.exec_recv.specs.Asides.{KeepsAside}
use Rattle.exec_recv.specs.Beginnings.{CanStart}
use Rattle.step_parts.specs.Kids.{AreKids}
use Rattle.step_parts.specs.Starting.{OwesBare, IsStarting}
use Rattle.op_slot.specs.Tends.{HasPlaces}

module _ (board : Board Blueprint) (y : Name) (below : List Entry) where
  -- The hand owes the start of y, whose home is empty. This start goes on with the one above it,
  -- draws the lot, and rests on no request but one that the hand has seen.
  pub record MayPutStart (m : Seated Item Entry) : Type 0 where
    pub owed : Owed Entry
    pub bare : OwesBare board y owed m
    pub entry : Entry
    pub below_is : below ≡ entry ∷ owed.above
    pub key : plan_of below ≡ board.frame.over.value
    pub node : node_of below ≡ y.node
    pub draws : drawn_of below ≡ owed.lot
    pub begins : BeginsBelow below
    pub calmly : has_seen board.frame.tree (view_of m) y ≡ false → NeedsNoRequest below

  -- The start lies in the home of y, which can begin. Where y was the last of the children of x
  -- whose homes were empty, it is one less.
  pub record PutsStart (m m' : Seated Item Entry) : Type 0 where
    pub put : IsPut board.frame y (Start below) m m'
    pub aside : KeepsAside m m'
    pub held : (view_of m').held ≡ (view_of m).held
    pub owed : (view_of m').owed ≡ (view_of m).owed
    pub starts : CanStart board y m'
    pub less : (x : Name) (start : List Entry) (lot : List ℤ) (children : List ℕ) (left : ℕ) →
        HasPlaces board.frame x → AreKids board x children → left < length children →
        y ≡ beside x (slice_index children left) →
        IsStarting board x start lot children (suc left) m →
        IsStarting board x start lot children left m'
