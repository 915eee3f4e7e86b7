-- What a begin needs, and what it does to the hand.
use Rattle.std.specs.Prelude.{◌≡◌, ℕ, Bool, true, false, List, [], ◌∷◌, Option, Some, None}
use Rattle.life_rules.specs.declared.event.Name.{Name}
use Rattle.node_tree.specs.declared.node.TreeNode.{TreeNode}
use Rattle.life_rules.specs.declared.words.ControlWord.TheVariants.{Idle, Busy}
use Rattle.life_rules.specs.declared.words.CallbackPhase.TheVariants.{Never}
use Rattle.life_rules.specs.Words.{clear}
use Rattle.node_tree.specs.Tree.{is_root, has_source}
use Rattle.table_words.specs.Layouts.{OfSource, index}
use Rattle.listed_words.specs.declared.seen.Seen.{Seen}
use Rattle.listed_words.specs.Lists.{entry}
use Rattle.table_rules.specs.declared.cargo.Cargo.{Ghosts}
use Rattle.table_rules.specs.declared.frame.Frame.{Frame}
use Rattle.table_rules.specs.declared.view.View.{View}
use Rattle.table_rules.specs.declared.view.Held.{Held}
use Rattle.table_rules.specs.declared.view.Owed.{Owed}
use Rattle.table_rules.specs.declared.view.Rooted.{Rooted}
use Rattle.table_rules.specs.Named.{without}
use Rattle.table_steps.specs.Claims.{with_step}
use Rattle.table_steps.specs.Seats.{Seated, homes_of, view_of}
use Rattle.table_steps.specs.Lefts.{SaysSource, FoundSource, LeavesControl}
use Rattle.table_steps.specs.Kids.{empty_slots}
use Rattle.table_steps.specs.Slots.{Aim, kids_of, IsSeated, has_seen, owed_at, home_at}
use Rattle.table_steps.specs.Hearings.{HearsAs}

-- the start of a root is noted
abbrev pub notes_start : {E : Type 0} → Bool → Name → List E → List (Rooted E) → List (Rooted E)
notes_start true x start noted = record { name = x; start = start } ∷ noted
notes_start false x start noted = noted

-- the entry of a node that was begun: its callback was never registered, and no child of it has
-- begun. Told is whether a stop was requested on the node's nearest source at that step, and on the
-- source that its children hear
abbrev pub begun_as : {E : Type 0} → List TreeNode → Name → List E → Bool → Bool → Held E
begun_as tree x start told told_children =
    record {
      name = x;
      start = start;
      named = 0;
      told = told;
      told_children = told_children;
      lot = None;
      phase = Some Never;
      idle = kids_of tree x.node;
    }

-- the hand owes the start no more, and holds the node with it; where it is the root, it notes the
-- start
abbrev pub begins : {P E : Type 0} → List TreeNode → Name → List E → Bool → Bool → View P E →
    View P E
begins tree x start told told_children v =
    record v {
      owed = without (λ e. e.name) v.owed x;
      held = begun_as tree x start told told_children ∷ v.held;
      noted = notes_start (is_root tree x.node) x start v.noted;
    }

-- the hand owes the node's start, and has an item in its home, which is no completion. The start
-- that the item shows goes on with that of the parent, has the table's key, and draws the lot with
-- which the node is owed
pub record CanBegin {P E O : Type 0} (cargo : Ghosts P E O) (f : Frame O) (m : Seated P E)
    (x : Name) : Type 0 where
  pub owed : Owed E
  pub owes : owed_at (view_of m) x ≡ Some owed
  pub item : P
  pub home : home_at f.layout m x ≡ Some (Some item)
  pub entry : E
  pub start : cargo.start item ≡ entry ∷ owed.above
  pub key : cargo.key (cargo.start item) ≡ f.over.value
  pub drawn : cargo.drawn (cargo.start item) ≡ owed.lot
  pub goes_on : ¬ cargo.ends item

module _ {P E O : Type 0} (cargo : Ghosts P E O) where
  abbrev pub start_shown : Option (Option P) → List E
  start_shown None = []
  start_shown (Some None) = []
  start_shown (Some (Some item)) = cargo.start item

  -- the node's store: the hand holds the node with the start that the item in its home shows, and
  -- has the empty homes of its children
  pub record BeginsAt (aim : Aim) (i read left : ℕ) (m m' : Seated P E) : Type 0 where
    pub told : Bool
    pub told_children : Bool
    -- a request that the hand has seen still stands
    pub seen : has_seen aim.tree (view_of m) aim.name ≡ true → told ≡ true
    -- what the two bits say of the sources
    pub hears : HearsAs aim.tree (view_of m) aim.name told told_children
    pub me_is : m' ≡ (
      with_step i read left
          (begins aim.tree aim.name (start_shown (home_at aim.layout m aim.name)) told
          told_children (view_of m)),
      empty_slots aim.layout aim.name.block (kids_of aim.tree aim.name.node) (homes_of m),
    )
    pub seated : IsSeated aim.tree aim.layout m → IsSeated aim.tree aim.layout m'

-- the renewal: a store that writes the node's source as clear, as it read before
pub record Renews {P E : Type 0} (x : Name) (i read left : ℕ) (m m' : Seated P E) : Type 0 where
  pub found : FoundSource x clear read
  pub me_is : m' ≡ (with_step i read left (view_of m), homes_of m)

-- the index of the source's word
abbrev pub source_index : Aim → ℕ
source_index aim = index aim.layout (OfSource aim.name.block aim.name.node)

-- the renewal found the source clear, or of an earlier generation, and left it clear, at the node's
-- generation
pub record RenewsSource {P E : Type 0} (aim : Aim) (m m' : Seated P E) : Type 0 where
  pub read : ℕ
  pub left : ℕ
  pub found : FoundSource aim.name clear read
  pub says : SaysSource aim.name clear left
  pub did : m' ≡ (with_step (source_index aim) read left (view_of m), homes_of m)

-- the source of a node that has one is renewed, at the node's generation, before the node begins
abbrev pub IsRenewed : {P E : Type 0} → Aim → Seated P E → Seated P E → Type 0
IsRenewed aim m m' =
    (has_source aim.tree aim.name.node ≡ true → RenewsSource aim m m')
    × (has_source aim.tree aim.name.node ≡ false → m' ≡ m)

-- the hand's newest step was the renewal
pub record RenewedLast {P E : Type 0} (aim : Aim) (m : Seated P E) : Type 0 where
  pub read : ℕ
  pub left : ℕ
  pub earlier : List Seen
  pub says : SaysSource aim.name clear left
  pub steps_are : (view_of m).steps ≡ entry (source_index aim) read left ∷ earlier

-- where the node has a source, the hand's newest step was its renewal
abbrev pub HasRenewed : {P E : Type 0} → Aim → Seated P E → Type 0
HasRenewed aim m = has_source aim.tree aim.name.node ≡ true → RenewedLast aim m

-- a begin: the renewal, where the node has a source, and the store of its control word
pub record Begins {P E O : Type 0} (cargo : Ghosts P E O) (aim : Aim)
    (m m' : Seated P E) : Type 0 where
  pub middle : Seated P E
  pub renewed : IsRenewed aim m middle
  pub began : LeavesControl aim Idle (Busy 0) (BeginsAt cargo aim) middle m'
  -- what lies in the node's home then is no completion
  pub goes_on : (item : P) → home_at aim.layout m' aim.name ≡ Some (Some item) → ¬ cargo.ends item
