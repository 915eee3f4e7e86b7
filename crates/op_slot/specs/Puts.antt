-- What a hand needs to put an item into a home, and what moves do to the hand.
use Rattle.std.specs.Prelude.{◌≡◌, ◌⊎◌, ◌||◌, ◌∷◌, Option, Some, None}
use Rattle.life_rules.specs.declared.event.Name.{Name}
use Rattle.table_rules.specs.declared.cargo.Cargo.{Ghosts}
use Rattle.table_rules.specs.declared.frame.Frame.{Frame}
use Rattle.table_rules.specs.declared.view.Held.{Held}
use Rattle.table_rules.specs.declared.view.Owed.{Owed}
use Rattle.table_steps.specs.Seats.{Seated, view_of}
use Rattle.table_steps.specs.Begins.{CanBegin}
use Rattle.table_steps.specs.Slots.{has_seen, held_at, owed_at, home_at}
use Rattle.table_steps.specs.Swaps.{IsSwapped}

module _ {P E O : Type 0} (cargo : Ghosts P E O) (f : Frame O) (m : Seated P E) (x : Name)
    (item : P) where
  -- the hand holds the node, and the item shows the node's start and fits, by what the hand has
  -- seen of requests and was told when it came to hold the node
  pub record FitsHeld : Type 0 where
    pub held : Held E
    pub holds : held_at (view_of m) x ≡ Some held
    pub start : cargo.start item ≡ held.start
    pub fit : cargo.fits item x.node (has_seen f.tree (view_of m) x || held.told)

  -- the hand owes the node's start. The start that the item shows goes on with that of the parent,
  -- has the table's key, and draws the lot with which the node is owed; the root's goes on with
  -- nothing, and draws nothing. The item fits by what the hand has seen of requests, and is no
  -- completion
  pub record FitsOwed : Type 0 where
    pub owed : Owed E
    pub owes : owed_at (view_of m) x ≡ Some owed
    pub entry : E
    pub start : cargo.start item ≡ entry ∷ owed.above
    pub key : cargo.key (cargo.start item) ≡ f.over.value
    pub drawn : cargo.drawn (cargo.start item) ≡ owed.lot
    pub fit : cargo.fits item x.node (has_seen f.tree (view_of m) x)
    pub goes_on : ¬ cargo.ends item

  -- and the node's home is empty
  pub record CanPut : Type 0 where
    pub home : home_at f.layout m x ≡ Some None
    pub fits : FitsHeld ⊎ FitsOwed

module _ {P E O : Type 0} (f : Frame O) (x : Name) where
  -- the item lies in the home, which was empty
  abbrev pub IsPut : P → Seated P E → Seated P E → Type 0
  IsPut item m m' = IsSwapped f x (Some item) None m m'

  -- this is what lay in the home, which is empty now
  abbrev pub IsTakenOut : Option P → Seated P E → Seated P E → Type 0
  IsTakenOut answer m m' = IsSwapped f x None answer m m'

-- where the hand owes the node's start, it can begin it with the item that it put
abbrev pub BeginsThen : {P E O : Type 0} → Ghosts P E O → Frame O → Name → P → Seated P E →
    Seated P E → Type 0
BeginsThen cargo f x item m m' = FitsOwed cargo f m x item → CanBegin cargo f m' x
