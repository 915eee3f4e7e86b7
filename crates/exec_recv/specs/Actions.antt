-- What the callbacks of nodes do, told by the steps that a call lists
-- ([stopcallback.inplace.cons]): that of a delay wakes it, and that of a `when_all` passes the
-- request on to its own source ([exec.when.all]).
use Rattle.std.specs.Prelude.{◌≡◌, ℕ, true, List, ◌∷◌, ◌++◌, Contains, slice_get, Some}
use Rattle.life_rules.specs.declared.event.Name.{Name}
use Rattle.life_rules.specs.declared.event.Resting.TheVariants.{Parked}
use Rattle.life_rules.specs.declared.event.SourceRef.{SourceRef}
use Rattle.life_rules.specs.declared.event.SourceRef.TheVariants.{Node}
use Rattle.life_rules.specs.declared.words.CallbackPhase.TheVariants.{Armed, Running}
use Rattle.life_rules.specs.declared.words.ControlWord.TheVariants.{ReadyLoop}
use Rattle.listed_words.specs.declared.seen.Seen.{Seen}
use Rattle.node_tree.specs.declared.node_list.NodeList.{NodeList}
use Rattle.plan_rules.specs.declared.node.Node.TheVariants.{Delay, WhenAll}
use Rattle.plan_shape.specs.Blueprint.{Blueprint}
use Rattle.table_words.specs.Controls.{source_read}
use Rattle.table_words.specs.Layouts.{OfSource, index}
use Rattle.table_words.specs.Stamps.{stamp_of}
use Rattle.table_rules.specs.Named.{Each}
use Rattle.table_steps.specs.Views.{Board, IsPlaceIn}
use Rattle.table_steps.specs.Callbacks.{callback_index}
use Rattle.table_steps.specs.Seats.{Seated, view_of}
use Rattle.table_steps.specs.Lefts.{SaysCallback, SaysControl}
use Rattle.table_steps.specs.Steps.{control_index}
use Rattle.table_steps.specs.Takes.{rest_word}
use Rattle.stop_calls.specs.Asides.{IsLonger}
use Rattle.home_items.specs.declared.entry.Entry.{Entry}
use Rattle.home_items.specs.declared.item.Item.{Item}
use Rattle.exec_recv.specs.Areas.{IsWithin}

module _ (board : Board Blueprint) (y : Name) (step : Seen) where
  -- The step found the callback of y armed, and left it running.
  pub record BeginsRun : Type 0 where
    pub place : IsPlaceIn board y
    pub index_is : step.index ≡ callback_index board y
    pub armed : SaysCallback y Armed step.read
    pub running : SaysCallback y Running step.left

  -- The step is on the control word of y, and left it ready in the loop where it found it parked.
  pub record Wakes : Type 0 where
    pub index_is : step.index ≡ control_index board y
    pub readies : step.read ≡ rest_word y Parked → SaysControl y ReadyLoop step.left

  -- The step is on the word of y's own source, and left it saying that a stop is requested.
  pub record PassesOn : Type 0 where
    pub index_is : step.index ≡ index board.frame.layout (OfSource y.block y.node)
    pub stamp_is : stamp_of step.left ≡ y.generation
    pub requested : (source_read step.left).requested ≡ true

-- one of the steps is such
abbrev pub SomeStep : (Seen → Type 0) → List Seen → Type 0
SomeStep IsSuch steps = (step : Seen) × Contains steps step × IsSuch step

module _ (board : Board Blueprint) (plan : Blueprint) where
  -- What the callback of y does is among these steps: where y is a delay, one woke it, and where y
  -- is a `when_all`, one passed the request on.
  pub record HasActed (y : Name) (steps : List Seen) : Type 0 where
    pub wakes : (turns : ℕ) → slice_get plan.nodes y.node ≡ Some (Delay turns) →
        SomeStep (Wakes board y) steps
    pub passes_on : (children : NodeList) → slice_get plan.nodes y.node ≡ Some (WhenAll children) →
        SomeStep (PassesOn board y) steps

  -- Whichever of these steps, of which the newest is first, began the run of a callback: those that
  -- are later have what it does.
  abbrev pub AllAct : List Seen → Type 0
  AllAct steps =
      (later earlier : List Seen) (step : Seen) → steps ≡ later ++ step ∷ earlier →
      (y : Name) → BeginsRun board y step → HasActed y later

  -- The list of steps grew by such as a scan of the source may make, and each callback whose run
  -- began in what is new did there what it does.
  pub record ListsActions (source : SourceRef) (m m' : Seated Item Entry) : Type 0 where
    pub steps : IsLonger (view_of m).steps (view_of m').steps
    pub within : Each (IsWithin board source) steps.made
    pub act : AllAct steps.made

  -- So it did, and the callback of x acted in what is new.
  pub record Acts (x : Name) (m m' : Seated Item Entry) : Type 0 where
    pub lists : ListsActions (Node x) m m'
    pub acted : HasActed x lists.steps.made
