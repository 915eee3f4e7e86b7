-- What a hand needs to take a node that rests, and what that does to the hand.
use Rattle.std.specs.Prelude.{◌≡◌, ◌≢◌, ℕ, ◌≤◌, Bool, true, false, List, [], ◌∷◌, length, Option, Some, None}
use Rattle.life_rules.specs.declared.words.ControlWord.TheVariants.{Busy}
use Rattle.life_rules.specs.declared.event.Name.{Name}
use Rattle.node_tree.specs.declared.context.Context.{Context}
use Rattle.node_tree.specs.declared.context.Context.TheVariants.{Loop, Pool}
use Rattle.life_rules.specs.declared.event.Resting.{Resting}
use Rattle.life_rules.specs.declared.event.Resting.TheVariants as rest
use Rattle.life_rules.specs.Words.{may_be_taken, resting_at}
use Rattle.table_words.specs.Controls.{control_written}
use Rattle.table_words.specs.Layouts.{OfControl, index}
use Rattle.table_rules.specs.declared.frame.Frame.{Frame}
use Rattle.table_rules.specs.declared.cargo.Cargo.{Ghosts}
use Rattle.table_rules.specs.declared.view.View.{View}
use Rattle.table_rules.specs.declared.view.Rooted.{Rooted}
use Rattle.table_rules.specs.Named.{Each}
use Rattle.atomic_table.specs.Table.{Step}
use Rattle.table_steps.specs.Claims.{with_step, logged}
use Rattle.table_steps.specs.Seats.{Seated, homes_of, view_of}
use Rattle.table_steps.specs.Lefts.{SaysControl}
use Rattle.table_steps.specs.Kids.{empty_slots}
use Rattle.table_steps.specs.Slots.{Aim, slot_of, kids_of, IsSeated, noted_at}
use Rattle.table_steps.specs.Hearings.{HearsAs}

-- the hand holds the node, with the start with which it began. Named is how many children its last
-- await named, told as at a begin
abbrev pub takes_node : {P E : Type 0} → Name → List E → ℕ → Bool → Bool → View P E → View P E
takes_node x start named told told_children v =
    record v {
      held = record {
        name = x;
        start = start;
        named = named;
        told = told;
        told_children = told_children;
        lot = None;
        phase = None;
        idle = [];
      } ∷ v.held;
    }

-- the exchange won: the hand holds the node, and has the item that lay in its home, and the empty
-- homes of its children
pub record TakenAt {P E : Type 0} {O : Type 0} (cargo : Ghosts P E O) (aim : Aim) (overs : List O)
    (i read left : ℕ) (m m' : Seated P E) : Type 0 where
  pub start : List E
  pub named : ℕ
  pub told : Bool
  pub told_children : Bool
  pub item : P
  pub me_is : m' ≡ (
    with_step i read left (takes_node aim.name start named told told_children (view_of m)),
    (slot_of aim.layout aim.name, Some item) ∷ empty_slots aim.layout aim.name.block
        (kids_of aim.tree aim.name.node) (homes_of m),
  )
  -- the item shows the node's start, fits, is no completion, and asks for no more children than
  -- were named, which were no more than the node has
  pub shows : cargo.start item ≡ start
  pub fit : cargo.fits item aim.name.node told
  pub goes_on : ¬ cargo.ends item
  pub bound : cargo.least item ≤ named
  pub most : named ≤ length (kids_of aim.tree aim.name.node)
  -- the start has the key of what the table was opened over, and is the one that the hand noted of
  -- a root
  pub key : Each (λ over. cargo.key start ≡ over) overs
  pub noted : (e : Rooted E) → noted_at (view_of m) aim.name ≡ Some e → start ≡ e.start
  -- what the two bits say of the sources
  pub hears : HearsAs aim.tree (view_of m) aim.name told told_children
  pub seated : IsSeated aim.tree aim.layout m → IsSeated aim.tree aim.layout m'
  -- the item is one that may rest there
  pub rests : cargo.rests item aim.name.node

-- the exchange of the word that says that the node rests there, at its generation, won; or it found
-- another word, and changed nothing
abbrev pub TakesAt : {P E O : Type 0} → Ghosts P E O → Aim → List O → Step (Option P) → Seated P E →
    ℕ → Seated P E → Type 0
TakesAt cargo aim overs step m found m' =
    (found ≡ step.first → TakenAt cargo aim overs step.word found step.second m m')
    × (found ≢ step.first → m' ≡ (logged step.word found (view_of m), homes_of m))

-- what is ready in a context rests there
abbrev pub resting_in : Context → Resting
resting_in Loop = rest.Loop
resting_in Pool = rest.Pool

-- the hand may take what rests there: what is ready in the pool any hand, all else hand 0
abbrev pub MayServe : {P E : Type 0} → Resting → View P E → Type 0
MayServe from v = may_be_taken (resting_at from) v.number ≡ true

-- the word of a node that rests there
abbrev pub rest_word : Name → Resting → ℕ
rest_word x from = control_written x.generation (resting_at from)

-- true where the word said that the node rests there, at its generation: then the hand has it, and
-- the word says that it is held. False where it was another: then nothing changed
abbrev pub IsTaken : {P E O : Type 0} → Ghosts P E O → Frame O → Name → Resting → Bool →
    Seated P E → Seated P E → Type 0
IsTaken cargo f x from answer m m' =
    (answer ≡ true →
    (left : ℕ) × SaysControl x (Busy 0) left
    × TakenAt cargo (record { tree = f.tree; layout = f.layout; name = x }) (f.over.value ∷ [])
    (index f.layout (OfControl x.block x.node)) (rest_word x from) left m m')
    × (answer ≡ false →
    (found : ℕ) × (found ≢ rest_word x from)
    × (m' ≡ (logged (index f.layout (OfControl x.block x.node)) found (view_of m), homes_of m)))

-- and so of a node that is ready in the context
abbrev pub IsTakenOn : {P E O : Type 0} → Ghosts P E O → Frame O → Name → Context → Bool →
    Seated P E → Seated P E → Type 0
IsTakenOn cargo f x on answer m m' = IsTaken cargo f x (resting_in on) answer m m'
