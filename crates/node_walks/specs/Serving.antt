-- What it comes to where a node that may be ready is served.
use Rattle.std.specs.Prelude.{◌≡◌, ◌≢◌, ℕ, Bool, true, false, List}
use Rattle.life_rules.specs.declared.event.Name.{Name}
use Rattle.life_rules.specs.declared.event.Resting.{Resting}
use Rattle.life_rules.specs.declared.words.ControlWord.TheVariants.{Busy}
use Rattle.node_tree.specs.declared.context.Context.{Context}
use Rattle.plan_shape.specs.Blueprint.{Blueprint}
use Rattle.table_words.specs.Controls.{control_read}
use Rattle.table_words.specs.Layouts.{OfControl, index}
use Rattle.table_steps.specs.Views.{Board}
use Rattle.table_steps.specs.Seats.{Seated}
use Rattle.table_steps.specs.Lefts.{SaysControl}
use Rattle.table_steps.specs.Looks.{is_ready_in}
use Rattle.table_steps.specs.Steps.{control_index}
use Rattle.table_steps.specs.Takes.{IsTaken, rest_word}
use Rattle.home_items.specs.contracts.item.ItemCargo.TheImpl.{ghosts}
use Rattle.home_items.specs.declared.entry.Entry.{Entry}
use Rattle.home_items.specs.declared.item.Item.{Item}
use Rattle.exec_recv.specs.Asides.{KeepsAside}
use Rattle.exec_recv.specs.Sites.{Does}
use Rattle.node_walks.specs.declared.mail.ReadyNode.{ReadyNode}
use Rattle.node_walks.specs.Stepped.{HasStepped, OnlySteps}
use Rattle.exec_recv.specs.Since.{HasMovedSince, HasReadSince}
use Rattle.node_walks.specs.Since.{OnlyLooks}

-- The node was taken where it rested there, or wasn't.
abbrev pub TakesUp : Board Blueprint → Name → Resting → Bool → Seated Item Entry → Seated Item Entry
    → Type 0
TakesUp board name from answer m m' = IsTaken ghosts board.frame name from answer m m'

-- The node rested there, at its generation, and is held afterwards.
abbrev pub TakesWord : Resting → Name → ℕ → ℕ → Type 0
TakesWord from name word left = (word ≡ rest_word name from) × SaysControl name (Busy 0) left

-- The node rested there: the hand took it by a step on its word, and the stepper stepped it. Before
-- that and afterwards only requests were seen, and steps listed.
pub record ServesNode (does : Does) (board : Board Blueprint) (from : Resting) (name : Name)
    (m m' : Seated Item Entry) : Type 0 where
  pub before : Seated Item Entry
  pub kept : KeepsAside m before
  pub held : Seated Item Entry
  pub took : TakesUp board name from true before held
  pub taken : HasMovedSince (control_index board name) (TakesWord from name) m m'
  pub stepped : HasStepped does board name held m'

-- So it was taken and stepped, and the hand did nothing else, but looks before that. The steps left
-- these nodes ready, in this order.
pub record OnlyServes (does : Does) (board : Board Blueprint) (from : Resting) (name : Name)
    (m m' : Seated Item Entry) (ready : List ReadyNode) : Type 0 where
  pub before : Seated Item Entry
  pub looks : OnlyLooks m before
  pub held : Seated Item Entry
  pub took : TakesUp board name from true before held
  pub steps : OnlySteps does board name held m' ready

-- The word says that its node isn't ready in the context.
abbrev pub IsUnready : Context → ℕ → Type 0
IsUnready on word = is_ready_in on (control_read word) ≡ false

module _ (board : Board Blueprint) (m m' : Seated Item Entry) where
  -- the word of the block's node was read, and said so
  abbrev pub WasUnready : Context → ℕ → ℕ → Type 0
  WasUnready on block node =
      HasReadSince (index board.frame.layout (OfControl block node)) (IsUnready on) m m'

  -- the word of the named node was read, and didn't say that it rests there, at its generation
  abbrev pub WasMissed : Resting → Name → Type 0
  WasMissed from name =
      HasReadSince (control_index board name) (λ word. word ≢ rest_word name from) m m'
