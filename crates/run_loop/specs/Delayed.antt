-- What a turn makes of the parked delays of the plan.
use Rattle.std.specs.Prelude.{◌≡◌, ◌≢◌, ◌⊎◌, ℕ, ◌<◌, ◌≤◌, true, false, List, slice_get, Option, Some, None, if◌then◌else◌}
use Rattle.life_rules.specs.declared.event.Name.{Name}
use Rattle.life_rules.specs.declared.event.Resting.TheVariants as rest
use Rattle.life_rules.specs.Words.{is_parked}
use Rattle.timer_wheel.specs.declared.waiting.Waiting.{Waiting}
use Rattle.timer_wheel.specs.Delays.{DelayList, places, delay_at, turn_due, is_of, is_known, seen_parked, turn_after, NoneIsDue}
use Rattle.plan_rules.specs.declared.node.Node.TheVariants.{Delay}
use Rattle.plan_shape.specs.Blueprint.{Blueprint}
use Rattle.table_words.specs.Controls.{control_read}
use Rattle.table_words.specs.Layouts.{OfControl, index}
use Rattle.table_words.specs.Stamps.{stamp_of}
use Rattle.table_steps.specs.Views.{Board}
use Rattle.table_steps.specs.Claims.{logged}
use Rattle.table_steps.specs.Seats.{Seated, homes_of, view_of}
use Rattle.home_items.specs.declared.entry.Entry.{Entry}
use Rattle.home_items.specs.declared.item.Item.{Item}
use Rattle.exec_recv.specs.Sites.{Does}
use Rattle.exec_recv.specs.Since.{HasReadSince}
use Rattle.node_walks.specs.Serving.{WasMissed}
use Rattle.run_loop.specs.declared.delay_node.DelayNode.{DelayNode}
use Rattle.run_loop.specs.declared.looped.Loop.{Loop as Looped}
use Rattle.run_loop.specs.DelayNodes.{nodes_of, place_of, name_at}
use Rattle.run_loop.specs.Serves.{IsOpen, ServesAll, Taking}
use Rattle.run_loop.specs.Turns.{WasTaken}

-- The word says that its node is parked, at this generation.
abbrev pub SaysParked : ℕ → ℕ → Type 0
SaysParked generation word = (is_parked (control_read word) ≡ true) × (stamp_of word ≡ generation)

-- The index of a place's control word.
abbrev pub word_at : Board Blueprint → ℕ → ℕ → ℕ
word_at board block node = index board.frame.layout (OfControl block node)

module _ (board : Board Blueprint) (m m' : Seated Item Entry) where
  -- The delay that waits at the place is one of the plan, and was first seen in this turn: since
  -- then its word was read, and said that it is parked, at its generation.
  pub record IsSeenNow (turn place : ℕ) (waiting : Waiting) : Type 0 where
    pub block : ℕ
    pub node : ℕ
    pub within : block < board.frame.layout.blocks
    pub place_is : place ≡ place_of board block node
    pub delay : slice_get (nodes_of board) node ≡ Some (Delay waiting.turns)
    pub since : waiting.since ≡ turn
    pub read : HasReadSince (word_at board block node) (SaysParked waiting.generation) m m'

  -- An exchange of the named node's word was tried, which lost; or where something was counted, it
  -- won.
  abbrev pub WasTried : ℕ → Name → Type 0
  WasTried count name =
      WasMissed board m m' rest.Parked name ⊎ ((1 ≤ count) × WasTaken board m m' rest.Parked name)

  -- The delay that waited at the place, which was of a block of the table, was tried.
  abbrev pub WasTriedAt : ℕ → ℕ → ℕ → Type 0
  WasTriedAt count place generation =
      (name_at board place generation).block < board.frame.layout.blocks
      → WasTried count (name_at board place generation)

  -- A delay that waited there, or was seen in this turn, was due, and was tried.
  pub record WasDue (turn count place : ℕ) (before : Option Waiting) : Type 0 where
    pub waiting : Waiting
    pub came : (before ≡ Some waiting) ⊎ IsSeenNow turn place waiting
    pub due : turn_due waiting ≤ turn
    pub tried : WasTriedAt count place waiting.generation

  -- The place had no delay of this generation, or lost it in this turn: the word said another, or
  -- the delay was due.
  abbrev pub IsNewIn : ℕ → ℕ → ℕ → Option Waiting → ℕ → Type 0
  IsNewIn turn count place before generation =
      (is_of generation before ≡ false)
      ⊎ (((other : Waiting) × (other.generation ≢ generation) × IsSeenNow turn place other)
      ⊎ WasDue turn count place before)

  -- The place has a delay that was first seen in this turn, and had it not before; or none more,
  -- since that which waited there was due.
  abbrev pub Changes : ℕ → ℕ → ℕ → Option Waiting → Option Waiting → Type 0
  Changes turn count place before after =
      ((waiting : Waiting) × (after ≡ Some waiting) × IsSeenNow turn place waiting
      × IsNewIn turn count place before waiting.generation)
      ⊎ ((after ≡ None) × WasDue turn count place before)

  -- It has the delay that it had, or changed so.
  abbrev pub Becomes : ℕ → ℕ → ℕ → Option Waiting → Option Waiting → Type 0
  Becomes turn count place before after =
      (after ≡ before) ⊎ Changes turn count place before after

  -- The node's word was read. Where it said that the node is parked, the list has it, at the
  -- generation of the word, or it was taken out and tried.
  pub record IsLookedAt (list : DelayList) (count block node : ℕ) : Type 0 where
    pub word : ℕ
    pub read : HasReadSince (word_at board block node) (λ w. w ≡ word) m m'
    pub known : is_parked (control_read word) ≡ true
        → (is_known list (place_of board block node) (stamp_of word) ≡ true)
        ⊎ WasTried count (record { block = block; generation = stamp_of word; node = node })

  -- One turn: the list goes on to the next turn. Each delay of the plan is looked at in each block,
  -- and takes its place in the list. Each that is due is taken out, and tried.
  pub record PassesTurn (count : ℕ) (before after : DelayList) : Type 0 where
    pub turn : after.turn ≡ turn_after before.turn
    pub each : (place : ℕ)
        → Becomes after.turn count place (delay_at before place) (delay_at after place)
    pub looked : (block node turns : ℕ) → block < board.frame.layout.blocks
        → slice_get (nodes_of board) node ≡ Some (Delay turns) → IsLookedAt after count block node
    pub none : NoneIsDue after

-- The parked node of this name was due in the turn: its delay waited in the list before, or was
-- seen in this turn.
pub record WasDueNow (board : Board Blueprint) (m m' : Seated Item Entry) (turn : ℕ)
    (before : DelayList) (name : Name) : Type 0 where
  pub place : ℕ
  pub waiting : Waiting
  pub came : (delay_at before place ≡ Some waiting) ⊎ IsSeenNow board m m' turn place waiting
  pub due : turn_due waiting ≤ turn
  pub name_is : name ≡ name_at board place waiting.generation

-- A delay that is due waits in the list at the named place, seen at the name's generation.
pub record IsDueAt (board : Board Blueprint) (list : DelayList) (name : Name) : Type 0 where
  pub place : ℕ
  pub waiting : Waiting
  pub there : delay_at list place ≡ Some waiting
  pub due : turn_due waiting ≤ list.turn
  pub name_is : name ≡ name_at board place waiting.generation

-- What may be taken where delays are due: one of this place, those of this list, and those of this
-- turn.
abbrev pub MayTakeDelay : Board Blueprint → ℕ → ℕ → Taking
MayTakeDelay board place generation =
    λ from name. (from ≡ rest.Parked) × (name ≡ name_at board place generation)

abbrev pub MayTakeOf : Board Blueprint → DelayList → Taking
MayTakeOf board list = λ from name. (from ≡ rest.Parked) × IsDueAt board list name

abbrev pub MayTakeDue : Board Blueprint → Seated Item Entry → Seated Item Entry → ℕ → DelayList →
    Taking
MayTakeDue board m m' turn before =
    λ from name. (from ≡ rest.Parked) × WasDueNow board m m' turn before name

-- What a turn of the loop may take: what rests in the loop, where it helps what rests in the pool,
-- and what is parked where it was due.
abbrev pub MayTakeIn : Board Blueprint → Looped → Looped → Taking
MayTakeIn board old new =
    λ from name. IsOpen old.helps from
    ⊎ MayTakeDue board old.hand.me new.hand.me new.delays.turn old.delays from name

-- So many nodes were taken and stepped, one after the other, each of which might be.
abbrev pub TakesSoMany : Does → Board Blueprint → ℕ → Looped → Looped → Type 0
TakesSoMany does board count old new = ServesAll does board (MayTakeIn board old new) count old new

abbrev pub HasTurned : Board Blueprint → ℕ → Looped → Looped → Type 0
HasTurned board count old new =
    PassesTurn board old.hand.me new.hand.me count old.delays new.delays

-- A look at one place: its word was read, and where that says that the node is parked, the list
-- takes note of it.
pub record LooksAtDelay (board : Board Blueprint) (block : ℕ) (delay : DelayNode)
    (m m' : Seated Item Entry)
    (before after : DelayList) : Type 0 where
  pub word : ℕ
  pub me_is : m' ≡ (logged (word_at board block delay.node) word (view_of m), homes_of m)
  pub list : after ≡ (if is_parked (control_read word)
      then seen_parked before (place_of board block delay.node) (stamp_of word) delay.turns
      else before)

-- Looks at the first so many of these delays in one block.
pub record LooksThrough (board : Board Blueprint) (block : ℕ) (delays : List DelayNode) (count : ℕ)
    (m m' : Seated Item Entry) (before after : DelayList) : Type 0 where
  pub turn : after.turn ≡ before.turn
  pub places_are : places after ≡ places before
  pub each : (place : ℕ)
      → Becomes board m m' after.turn 0 place (delay_at before place) (delay_at after place)
  pub looked : (k : ℕ) (delay : DelayNode) → k < count → slice_get delays k ≡ Some delay
      → IsLookedAt board m m' after 0 block delay.node
  pub others : (b n : ℕ) → b ≢ block → n < board.frame.layout.nodes
      → delay_at after (place_of board b n) ≡ delay_at before (place_of board b n)

-- Looks at these delays in the first so many blocks.
pub record LooksBelow (board : Board Blueprint) (delays : List DelayNode) (blocks : ℕ)
    (m m' : Seated Item Entry) (before after : DelayList) : Type 0 where
  pub turn : after.turn ≡ before.turn
  pub places_are : places after ≡ places before
  pub each : (place : ℕ)
      → Becomes board m m' after.turn 0 place (delay_at before place) (delay_at after place)
  pub looked : (b k : ℕ) (delay : DelayNode) → b < blocks → slice_get delays k ≡ Some delay
      → IsLookedAt board m m' after 0 b delay.node

-- A delay that waited at the place was due, and was tried.
pub record WasTakenOut (board : Board Blueprint) (turn count place : ℕ) (m m' : Seated Item Entry)
    (before : Option Waiting) : Type 0 where
  pub waiting : Waiting
  pub there : before ≡ Some waiting
  pub due : turn_due waiting ≤ turn
  pub tried : WasTriedAt board m m' count place waiting.generation

-- Delays were taken out that were due, and no others.
pub record TakesOut (board : Board Blueprint) (count : ℕ) (m m' : Seated Item Entry)
    (before after : DelayList) : Type 0 where
  pub turn : after.turn ≡ before.turn
  pub places_are : places after ≡ places before
  pub each : (place : ℕ) → (delay_at after place ≡ delay_at before place)
      ⊎ ((delay_at after place ≡ None)
      × WasTakenOut board after.turn count place m m' (delay_at before place))

-- and all that were
pub record TakesDue (board : Board Blueprint) (count : ℕ) (m m' : Seated Item Entry)
    (before after : DelayList) : Type 0 where
  pub takes : TakesOut board count m m' before after
  pub none : NoneIsDue after
