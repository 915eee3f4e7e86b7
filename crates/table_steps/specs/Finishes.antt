-- What a hand needs to finish a node, and what that does to the hand.
use Rattle.std.specs.Prelude.{◌≡◌, ℕ, ◌≤◌, Bool, true, false, ◌||◌, ◌==◌, List, ◌∷◌, Some, MatchOption}
use Rattle.std.specs.List.{list_any}
use Rattle.node_tree.specs.declared.node.TreeNode.{TreeNode}
use Rattle.life_rules.specs.declared.words.CallbackPhase.{CallbackPhase}
use Rattle.life_rules.specs.declared.words.CallbackPhase.TheVariants.{Never, Armed, Running, Ran, Removed}
use Rattle.life_rules.specs.declared.event.Name.{Name}
use Rattle.node_tree.specs.Tree.{is_root}
use Rattle.table_words.specs.declared.layout.Layout.{Layout}
use Rattle.table_words.specs.Layouts.{place_number}
use Rattle.table_rules.specs.declared.cargo.Cargo.{Ghosts}
use Rattle.table_rules.specs.declared.frame.Frame.{Frame}
use Rattle.table_rules.specs.declared.view.View.{View}
use Rattle.table_steps.specs.Claims.{with_step}
use Rattle.table_steps.specs.Seats.{Seated, homes_of, view_of}
use Rattle.table_steps.specs.Slots.{Aim, kids_of, is_of_family, IsSeated, has_seen, home_at}
use Rattle.table_steps.specs.Sheds.{shed}
use Rattle.table_steps.specs.Rests.{lets_go, CanLeave}

-- a callback with this phase isn't registered and doesn't run, and stays so
abbrev pub is_settled : CallbackPhase → Bool
is_settled Never = true
is_settled Armed = false
is_settled Running = false
is_settled Ran = true
is_settled Removed = true

-- the slot is that of a child of the node
abbrev pub is_of_kids : List TreeNode → Layout → Name → ℕ → Bool
is_of_kids tree l x slot = list_any (λ n. place_number l x.block n == slot) (kids_of tree x.node)

module _ {P E O : Type 0} (cargo : Ghosts P E O) (f : Frame O) (m : Seated P E) (x : Name) where
  -- the hand holds the node, and has read that its callback never was, ran or was removed. An item
  -- in the node's home asks for no more children than its last await named
  pub record CanEnd : Type 0 where
    pub leave : CanLeave f m x
    pub phase : MatchOption leave.held.phase ⊥ (λ phase. is_settled phase ≡ true)
    pub bound : (item : P) → home_at f.layout m x ≡ Some (Some item) →
        cargo.least item ≤ leave.held.named

  -- in the home lies a completion that shows the node's start, and fits by what the hand has seen
  -- of requests and was told when it came to hold the node
  pub record Completes (end : CanEnd) : Type 0 where
    pub item : P
    pub home : home_at f.layout m x ≡ Some (Some item)
    pub start : cargo.start item ≡ end.leave.held.start
    pub fit : cargo.fits item x.node (has_seen f.tree (view_of m) x || end.leave.held.told)
    pub ends : cargo.ends item

  pub record CanFinish : Type 0 where
    pub end : CanEnd
    pub completes : is_root f.tree x.node ≡ false → Completes end

-- the hand owes the node's report, with the start and the item with which it finished
abbrev pub owes_report : {P E : Type 0} → Name → List E → P → View P E → View P E
owes_report x start item v =
    record (lets_go x v) { reported = record { name = x; start = start; item = item } ∷ v.reported }

-- the hand has the finished root
abbrev pub has_root : {P E : Type 0} → Name → View P E → View P E
has_root x v = record (lets_go x v) { finished = x ∷ v.finished }

-- the store below the root: the hand gave back the home of the node, which keeps the completion,
-- and those of its children
pub record FinishedAt {P E O : Type 0} (cargo : Ghosts P E O) (aim : Aim) (i read left : ℕ)
    (m m' : Seated P E) : Type 0 where
  pub item : P
  pub home : home_at aim.layout m aim.name ≡ Some (Some item)
  pub me_is : m' ≡ (
    with_step i read left (owes_report aim.name (cargo.start item) item (view_of m)),
    shed (is_of_family aim.tree aim.layout aim.name) (homes_of m),
  )
  pub seated : IsSeated aim.tree aim.layout m'

-- and at the root: it gave back those of its children, and keeps the root's
pub record RootedAt {P E : Type 0} (aim : Aim) (i read left : ℕ) (m m' : Seated P E) : Type 0 where
  pub me_is : m' ≡ (
    with_step i read left (has_root aim.name (view_of m)),
    shed (is_of_kids aim.tree aim.layout aim.name) (homes_of m),
  )
  pub seated : IsSeated aim.tree aim.layout m'

abbrev pub FinishesAt : {P E O : Type 0} → Ghosts P E O → Aim → ℕ → ℕ → ℕ → Seated P E →
    Seated P E → Type 0
FinishesAt cargo aim i read left m m' =
    (is_root aim.tree aim.name.node ≡ false → FinishedAt cargo aim i read left m m')
    × (is_root aim.tree aim.name.node ≡ true → RootedAt aim i read left m m')
