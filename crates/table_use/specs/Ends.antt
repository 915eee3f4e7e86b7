-- Why an operation isn't completed: what the hand read, and where it stood.
use Rattle.std.specs.Prelude.{◌≡◌, ◌≢◌, ◌⊎◌, ℕ, ◌<◌, List, [], ◌∷◌, ◌++◌, Option, Some}
use Rattle.life_rules.specs.declared.words.ControlWord.TheVariants.{Busy, Done as IsDone, ReadyPool}
use Rattle.life_rules.specs.declared.event.Name.{Name}
use Rattle.life_rules.specs.declared.event.Resting.TheVariants.{Pool}
use Rattle.life_rules.specs.Views.{beside}
use Rattle.life_rules.specs.Words.{pending}
use Rattle.table_words.specs.Controls.{control_read}
use Rattle.atomic_table.specs.declared.shared.Seat.{Seat}
use Rattle.listed_words.specs.declared.seen.Seen.{Seen}
use Rattle.listed_words.specs.Lists.{entry}
use Rattle.table_rules.specs.declared.frame.Frame.{Frame}
use Rattle.table_rules.specs.declared.view.View.{View}
use Rattle.table_steps.specs.Views.{Board}
use Rattle.table_steps.specs.Seats.{Seated, homes_of, view_of}
use Rattle.table_steps.specs.Readings.{above_it, Holds}
use Rattle.table_steps.specs.Slots.{slot_of, kept}
use Rattle.table_steps.specs.Lefts.{SaysControl}
use Rattle.table_steps.specs.Reports.{CountsDown}
use Rattle.table_steps.specs.Takes.{rest_word}
use Rattle.table_use.specs.declared.cargo.Entry.{Entry}
use Rattle.table_use.specs.declared.cargo.Env.{Env}
use Rattle.table_use.specs.declared.cargo.Item.{Item}
use Rattle.table_use.specs.declared.cargo.Item.TheVariants.{Kept}
use Rattle.table_use.specs.declared.node.Fault.{Fault}
use Rattle.table_use.specs.declared.node.Fault.TheVariants.{Begun, Registered, Order, Lost, OtherItem}
use Rattle.table_use.specs.Uses.{control_at, IsRoot, HasNoted}
use Rattle.table_use.specs.Causes.{HasBegun, WasRegistered, WasFree, HasNoBlock}

-- a step on the node's control word, which read the one number and left the other
abbrev pub on_control : Frame ℕ → Name → ℕ → ℕ → Seen
on_control f x read left = entry (control_at f x) read left

-- these are the view's newest steps, the newest first
abbrev pub AreNewest : List Seen → View Item Entry → Type 0
AreNewest newest v = (earlier : List Seen) × (v.steps ≡ newest ++ earlier)

module _ (f : Frame ℕ) (x : Name) (m : Seated Item Entry) where
  -- the hand's newest step left the node at rest in the pool
  pub record IsLeft : Type 0 where
    pub read : ℕ
    pub left : ℕ
    pub newest : AreNewest (on_control f x read left ∷ []) (view_of m)
    pub rests : SaysControl x ReadyPool left

  -- right after a step that left the node done, the hand found that its parent hadn't one child
  -- pending, and left one less
  pub record IsNotLast : Type 0 where
    pub read : ℕ
    pub left : ℕ
    pub done : SaysControl x IsDone left
    pub found : ℕ
    pub fewer : ℕ
    pub newest : AreNewest
        (on_control f (above_it f.tree x) found fewer ∷ on_control f x read left ∷ []) (view_of m)
    pub counts : CountsDown (above_it f.tree x) found fewer
    pub others : pending (control_read found) ≢ 1

  -- right after it left the node at rest in the pool, the hand found another word there
  pub record IsLost : Type 0 where
    pub read : ℕ
    pub left : ℕ
    pub found : ℕ
    pub newest : AreNewest (on_control f x found found ∷ on_control f x read left ∷ []) (view_of m)
    pub rested : SaysControl x ReadyPool left
    pub other : found ≢ rest_word x Pool

  -- the hand took the node where it rested in the pool, and turned twice to its home, in which lies
  -- an item with no value
  pub record HasNoValue : Type 0 where
    pub out : ℕ
    pub back : ℕ
    pub taken : ℕ
    pub says : SaysControl x (Busy 0) taken
    pub newest : AreNewest
        (on_control f x back back ∷ on_control f x out out ∷ on_control f x
        (rest_word x Pool) taken ∷ []) (view_of m)
    pub held : Holds (view_of m) x
    pub item : Item
    pub home : kept (slot_of f.layout x) (homes_of m) ≡ Some (Some item)
    pub other : (env : Env) (value : ℕ) → item ≢ Kept env value

module _ (board : Board ℕ) (m m' : Seated Item Entry) where
  -- what told the hand to stop at the node
  abbrev pub StopsAt : Name → Fault → Type 0
  StopsAt x Begun = HasBegun board m m' x
  StopsAt x Registered = WasRegistered board m m' x
  StopsAt x Order = IsNotLast board.frame x m'
  StopsAt x Lost = IsLost board.frame x m'
  StopsAt x OtherItem = HasNoValue board.frame x m'
  StopsAt x fault = ⊥

  -- or at one of this block
  abbrev pub StopsIn : Name → Fault → Type 0
  StopsIn x fault = (n : ℕ) × (n < 4) × StopsAt (beside x n) fault

-- the hand stopped at a node of an operation whose root's block was free, and whose root it began
-- for this number
pub record StopsFor (board : Board ℕ) (number : ℕ) (m m' : Seated Item Entry)
    (fault : Fault) : Type 0 where
  pub root : Name
  pub is_root : IsRoot board root
  pub free : WasFree board m m' root
  pub env : Env
  pub number_is : env.number ≡ number
  pub noted : HasNoted root env m'
  pub stops : StopsIn board m m' root fault

-- why an operation for this number isn't completed: each block was missed, or it stopped at a node
abbrev pub IsEndCause : Board ℕ → ℕ → Seat (Option Item) (View Item Entry) →
    Seat (Option Item) (View Item Entry) → Fault → Type 0
IsEndCause board number old new fault = HasNoBlock board old new fault
    ⊎ StopsFor board number old.me new.me fault
