-- Why an operation isn't taken to its end: each fault rests on what words said that the hand read
-- in the call. The list of its steps has them. An operation is named by any node of it.
use Rattle.std.specs.Prelude.{◌≡◌, ◌≢◌, ◌⊎◌, ℕ, ◌<◌, Bool, true, List, ◌∷◌, Option}
use Rattle.life_rules.specs.declared.words.BlockState.TheVariants.{Free}
use Rattle.life_rules.specs.declared.words.CallbackPhase.TheVariants.{Never}
use Rattle.life_rules.specs.declared.event.Name.{Name}
use Rattle.life_rules.specs.declared.event.SourceRef.{SourceRef}
use Rattle.life_rules.specs.declared.event.SourceRef.TheVariants.{Node}
use Rattle.node_tree.specs.Tree.{has_source}
use Rattle.life_rules.specs.Views.{beside}
use Rattle.life_rules.specs.Words.{pending}
use Rattle.table_words.specs.Stamps.{stamp_of}
use Rattle.table_words.specs.Blocks.{block_read}
use Rattle.table_words.specs.Controls.{control_read}
use Rattle.table_words.specs.Layouts.{Spot, OfBlock, OfControl, OfCallback, OfSource, index}
use Rattle.atomic_table.specs.declared.shared.Seat.{Seat}
use Rattle.table_rules.specs.declared.view.View.{View}
use Rattle.listed_words.specs.declared.seen.Seen.{Seen}
use Rattle.listed_words.specs.Lists.{entry}
use Rattle.table_steps.specs.Views.{Board}
use Rattle.table_steps.specs.Seats.{Seated, view_of}
use Rattle.table_steps.specs.Readings.{says_begun, says_phase, Holds, HoldsAbove}
use Rattle.table_steps.specs.Runs.{says_armed}
use Rattle.table_steps.specs.Sights.{says_requested}
use Rattle.op_slot.specs.Searches.{IsMissedBelow}
use Rattle.stop_calls.specs.declared.requesting.Request.TheVariants.{Made}
use Rattle.stop_calls.specs.declared.scanning.Scan.{Scan}
pub use Rattle.stop_calls.specs.Asides.{IsLonger}
use Rattle.stop_calls.specs.Requests.{IsAskedFor}
use Rattle.stop_calls.specs.Walks.{IsThrough}
use Rattle.table_use.specs.declared.cargo.Item.{Item}
use Rattle.table_use.specs.declared.cargo.Entry.{Entry}
use Rattle.table_use.specs.declared.node.Fault.{Fault}
use Rattle.table_use.specs.declared.node.Fault.TheVariants.{NoBlock, Begun, Registered, Asked, Moved, OtherPlace, Order}
use Rattle.table_use.specs.Uses.{use_tree, IsRoot}

-- the hand made further steps, or none
abbrev pub GoesOn : Seated Item Entry → Seated Item Entry → Type 0
GoesOn m m' = IsLonger (view_of m).steps (view_of m').steps

-- it made at least one, and the newest is of the spot's word, which it read saying so
pub record HasJustRead (board : Board ℕ) (spot : Spot) (says : ℕ → Type 0)
    (m m' : Seated Item Entry) : Type 0 where
  pub word : ℕ
  pub left : ℕ
  pub said : says word
  pub earlier : List Seen
  pub began : IsLonger (view_of m).steps earlier
  pub newest : (view_of m').steps ≡ entry (index board.frame.layout spot) word left ∷ earlier

-- one of them is
pub record HasRead (board : Board ℕ) (spot : Spot) (says : ℕ → Type 0)
    (m m' : Seated Item Entry) : Type 0 where
  pub middle : Seated Item Entry
  pub read : HasJustRead board spot says m middle
  pub went_on : GoesOn middle m'

-- the scan came to its end, and to no place
pub record CameToNone (board : Board ℕ) (scan : Scan) (old : Seat (Option Item) (View Item Entry))
    (m' : Seated Item Entry) : Type 0 where
  pub last : Seat (Option Item) (View Item Entry)
  pub after : Scan
  pub through : IsThrough board scan old last after
  pub went_on : GoesOn last.me m'

-- so did a scan that a request of this hand began
pub record IsUnheard (board : Board ℕ) (source : SourceRef)
    (m m' : Seated Item Entry) : Type 0 where
  pub before : Seat (Option Item) (View Item Entry)
  pub began : GoesOn m before.me
  pub first : Seat (Option Item) (View Item Entry)
  pub scan : Scan
  pub failure : Bool
  pub requested : IsAskedFor board source failure (Made scan) before first
  pub came : CameToNone board scan first m'

module _ (board : Board ℕ) (m m' : Seated Item Entry) where
  -- the block's word said that it is free, at the name's generation
  abbrev pub WasFree : Name → Type 0
  WasFree x =
      HasRead board (OfBlock x.block)
      (λ word. block_read word ≡ record { generation = x.generation; state = Free }) m m'

  -- the control word said that the node has begun, and the hand holds the node's parent
  abbrev pub HasBegun : Name → Type 0
  HasBegun x =
      HasJustRead board (OfControl x.block x.node)
      (λ word. says_begun x.generation word ≡ true) m m'
      × HoldsAbove board.frame.tree (view_of m') x

  -- it counted one report that is pending
  abbrev pub AwaitsOne : Name → Type 0
  AwaitsOne x = HasJustRead board (OfControl x.block x.node)
      (λ word. pending (control_read word) ≡ 1) m m'

  -- the callback word said that the callback was registered once, and the hand holds the node
  abbrev pub WasRegistered : Name → Type 0
  WasRegistered x =
      HasJustRead board (OfCallback x.block x.node)
      (λ word. says_phase x.generation word ≢ Never) m m' × Holds (view_of m') x

  -- or that it is armed
  abbrev pub WasArmed : Name → Type 0
  WasArmed x =
      HasRead board (OfCallback x.block x.node) (λ word. (stamp_of word ≡ x.generation)
      × (says_armed word ≡ true)) m m'

  -- the source's word said that a stop is requested, by whatever hand
  abbrev pub WasAsked : Name → Type 0
  WasAsked x = HasRead board (OfSource x.block x.node)
      (λ word. says_requested (Node x) word ≡ true) m m'

  -- why a node of the operation of x doesn't wait or end
  abbrev pub IsNodeCause : Name → Fault → Type 0
  IsNodeCause x Begun = (n : ℕ) × (n < 3) × HasBegun (beside x n)
  IsNodeCause x Registered = (n : ℕ) × (n < 3) × WasRegistered (beside x n)
  IsNodeCause x fault = ⊥

  -- why the operation isn't started
  abbrev pub IsStartCause : Name → Fault → Type 0
  IsStartCause x Asked = (n : ℕ) × (has_source use_tree n ≡ true) × WasAsked (beside x n)
  IsStartCause x fault = IsNodeCause x fault

  -- why the failure that is told doesn't come to the twig
  abbrev pub IsStopCause : Name → Fault → Type 0
  IsStopCause x Asked = (n : ℕ) × (has_source use_tree n ≡ true) × WasAsked (beside x n)
  IsStopCause x Moved = (n : ℕ) × (has_source use_tree n ≡ true)
      × IsUnheard board (Node (beside x n)) m m'
  IsStopCause x OtherPlace = WasArmed (beside x 0)
  IsStopCause x fault = ⊥

  -- why the callback that runs at this place doesn't pass the request on
  abbrev pub IsCauseAt : Name → Fault → Type 0
  IsCauseAt place OtherPlace = place.node ≢ 2
  IsCauseAt place fault = IsStopCause place fault

  -- why the operation isn't taken to its end
  abbrev pub IsCauseIn : Name → Fault → Type 0
  IsCauseIn x Order = AwaitsOne (beside x 3)
  IsCauseIn x fault = IsStartCause x fault ⊎ IsStopCause x fault

-- and while the root's source is scanned: that scan itself may come to no place
abbrev pub IsScanCause : Board ℕ → Name → Scan → Seat (Option Item) (View Item Entry) →
    Seat (Option Item) (View Item Entry) → Fault → Type 0
IsScanCause board root scan old new Moved = CameToNone board scan old new.me
    ⊎ IsStopCause board old.me new.me root Moved
IsScanCause board root scan old new fault = IsStopCause board old.me new.me root fault

-- the fault comes in the operation of a root whose block was read as free
pub record StartedWith (board : Board ℕ) (m m' : Seated Item Entry) (fault : Fault) : Type 0 where
  pub root : Name
  pub is_root : IsRoot board root
  pub free : WasFree board m m' root
  pub cause : IsCauseIn board m m' root fault

-- no block was free: each was missed, at a step of its own
abbrev pub HasNoBlock : Board ℕ → Seat (Option Item) (View Item Entry) →
    Seat (Option Item) (View Item Entry) → Fault → Type 0
HasNoBlock board old new fault = (fault ≡ NoBlock)
    × IsMissedBelow board board.frame.layout.blocks old new

-- why the failure isn't told to its end: each block was missed, or an operation was started and has
-- the cause
abbrev pub IsCause : Board ℕ → Seat (Option Item) (View Item Entry) →
    Seat (Option Item) (View Item Entry) → Fault → Type 0
IsCause board old new fault = HasNoBlock board old new fault ⊎ StartedWith board old.me new.me fault
