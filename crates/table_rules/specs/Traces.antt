-- Where the words of a table come from: what stands in a word was left there by a step that some
-- hand listed.
use Rattle.std.specs.Prelude.{◌≡◌, ◌⊎◌, ℕ, ◌<◌, ◌≤◌, List, ◌++◌, length, Option, slice_index}
use mathlib.Core.Option.{some}
use lib.ListN.{get_elem?}
use Rattle.atomic_table.specs.Table as table
use Rattle.listed_words.specs.declared.seen.Seen.{Seen}
use Rattle.table_rules.specs.declared.cargo.Cargo.{Ghosts}
use Rattle.table_rules.specs.declared.frame.Frame.{Frame}
use Rattle.table_rules.specs.declared.view.View.{View}
use Rattle.table_rules.specs.Named.{AnyOf, Each}
use Rattle.table_rules.specs.Scenes.{Empty, home_in}
use Rattle.table_rules.specs.Running.{Running}

-- the step left this number in the word of this index
pub record LeavesThere (index word : ℕ) (e : Seen) : Type 0 where
  pub index_is : e.index ≡ index
  pub left_is : e.left ≡ word

-- the steps of the hand, and of those that were joined to it
abbrev pub all_steps : {P E : Type 0} → View P E → List Seen
all_steps v = v.steps ++ v.joined

-- a hand has a step of which this holds
pub record SomeHas {P E : Type 0} (views : List (View P E)) (Q : Seen → Type 0) : Type 0 where
  pub hand : ℕ
  pub view : View P E
  pub at : get_elem? views hand ≡ some view
  pub has : AnyOf Q view.steps

-- the same of a hand that wasn't joined to another, which has the steps of those joined to it too
pub record SomeCarries {P E : Type 0} (views : List (View P E)) (Q : Seen → Type 0) : Type 0 where
  pub hand : ℕ
  pub view : View P E
  pub at : get_elem? views hand ≡ some view
  pub itself : 1 ≤ view.hands
  pub has : AnyOf Q (all_steps view)

-- some hand made this step itself
abbrev pub IsMadeBySome : {P E : Type 0} → List (View P E) → Seen → Type 0
IsMadeBySome views e = SomeHas views (λ d. d ≡ e)

-- the rule of a table: what holds between any two steps, and that no word or home came to be what
-- it is but by a listed step. A table is opened with words that are 0 and with empty homes
pub record Traced {P E O : Type 0} (cargo : Ghosts P E O) (f : Frame O)
    (s : table.State (Option P) (View P E)) : Type 0 where
  pub runs : Running cargo f s
  -- a word is as it was at first, or some hand lists a step that left it so
  pub words : (i : ℕ) → i < length s.words →
      (slice_index s.words i ≡ 0) ⊎ SomeCarries s.views (LeavesThere i (slice_index s.words i))
  -- a home is empty as at first, or some hand has made a step
  pub homes : (i : ℕ) → (home_in (get_elem? s.homes i) ≡ Empty) ⊎ SomeHas s.views (λ _. Unit {0})
  -- a step of a hand that was joined to another was made by it
  pub joined : (h : ℕ) (v : View P E) → get_elem? s.views h ≡ some v →
      Each (IsMadeBySome s.views) v.joined
