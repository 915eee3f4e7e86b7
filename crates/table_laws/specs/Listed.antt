-- When a hand's list of steps says that a callback is over ([stopcallback]).
use Rattle.std.specs.Prelude.{◌≡◌, ◌≢◌, ◌⊎◌, Bool, true, false, ◌&&◌, ◌||◌, ◌==◌, List, ◌++◌, Option}
use Rattle.std.specs.List.{list_any}
use Rattle.life_rules.specs.declared.words.CallbackPhase.{CallbackPhase}
use Rattle.life_rules.specs.declared.words.CallbackPhase.TheVariants.{Never, Armed, Running, Ran, Removed}
use Rattle.life_rules.specs.declared.event.Name.{Name}
use Rattle.life_rules.specs.Words.{is_armed, is_running}
use Rattle.life_rules.specs.States.{phase_at}
use Rattle.table_words.specs.declared.layout.Layout.{Layout}
use Rattle.table_words.specs.Layouts.{OfCallback, index}
use Rattle.atomic_table.specs.Table as table
use Rattle.atomic_table.specs.declared.shared.Seat.{Seat}
use Rattle.table_rules.specs.declared.frame.Frame.{Frame}
use Rattle.table_rules.specs.declared.view.View.{View}
use Rattle.listed_words.specs.declared.seen.Seen.{Seen}
use Rattle.table_rules.specs.ShownWords.{word_of}
use Rattle.table_rules.specs.Scenes.{shown}
use Rattle.table_steps.specs.Views.{Board}
use Rattle.table_steps.specs.Readings.{says_phase}
use Rattle.table_steps.specs.Callbacks.{IsWithdrawn}
use Rattle.table_steps.specs.RunEnds.{IsRunEnded, IsOwnWithdrawn}
use Rattle.table_steps.specs.Runs.{says_armed, node_named}

-- the callback ran, or was removed
abbrev pub is_over : CallbackPhase → Bool
is_over Never = false
is_over Armed = false
is_over Running = false
is_over Ran = true
is_over Removed = true

-- the step was on the callback word of x, and left it saying at x's generation that the callback is
-- over
abbrev pub says_over : Layout → Name → Seen → Bool
says_over l x e =
    e.index == index l (OfCallback x.block x.node) && is_over (says_phase x.generation e.left)

-- some step of the hand's list says so
abbrev pub lists_over : {P E : Type 0} → Layout → View P E → Name → Bool
lists_over l v x = list_any (says_over l x) v.steps

-- the callback of x isn't armed and doesn't run, and a run that finds its place armed is of
-- another generation
pub record RunsNoMore {P E O : Type 0} (f : Frame O) (s : table.State (Option P) (View P E))
    (x : Name) : Type 0 where
  pub still : (is_armed (phase_at (shown f s) x) || is_running (phase_at (shown f s) x)) ≡ false
  pub other : says_armed (word_of f.layout s.words (OfCallback x.block x.node)) ≡ true →
      node_named x.block x.node (word_of f.layout s.words (OfCallback x.block x.node)) ≢ x

module _ {P E O : Type 0} (board : Board O) (x : Name) (old new : Seat (Option P) (View P E)) where
  -- `withdraw_step` answered that the callback was armed, or that it ran
  pub record FoundNoRun : Type 0 where
    pub answer : CallbackPhase
    pub withdrawn : IsWithdrawn board x answer old new
    pub no_run : is_running answer ≡ false

  -- the hand's newest step removed the callback, found that it ran, ended its run, or removed it
  -- from inside
  abbrev pub EndsIt : Type 0
  EndsIt = FoundNoRun ⊎ (IsRunEnded board x old new ⊎ IsOwnWithdrawn board x old new)

-- the list has these steps, and maybe newer ones
abbrev pub GrewFrom : List Seen → List Seen → Type 0
GrewFrom earlier steps = (newer : List Seen) × (steps ≡ newer ++ earlier)
