-- What a hand needs to give a block back, and what that does to the hand.
use Rattle.std.specs.Prelude.{◌≡◌, ℕ, ◌+◌, ◌-◌, ◌<◌, Bool, true, false, ◌==◌, List, length, Option, Some, None}
use mathlib.Core.Option.{some}
use lib.ListN.{get_elem?}
use Rattle.life_rules.specs.declared.words.BlockWord.{BlockWord}
use Rattle.life_rules.specs.declared.words.BlockState.TheVariants.{Open}
use Rattle.life_rules.specs.declared.event.Name.{Name}
use Rattle.life_rules.specs.LifeSteps.{next_word}
use Rattle.life_rules.specs.Words.{is_open}
use Rattle.table_words.specs.declared.layout.Layout.{Layout}
use Rattle.table_words.specs.Blocks.{block_read}
use Rattle.table_words.specs.Layouts.{OfBlock, index, place_number}
use Rattle.atomic_table.specs.Table as table
use Rattle.table_rules.specs.declared.cargo.Cargo.{Ghosts}
use Rattle.table_rules.specs.declared.frame.Frame.{Frame}
use Rattle.table_rules.specs.declared.view.View.{View}
use Rattle.table_rules.specs.Named.{without, Each}
use Rattle.table_rules.specs.Running.{Running}
use Rattle.table_rules.specs.ShownViews.{has_name}
use Rattle.table_rules.specs.ShownWords.{block_of}
use Rattle.table_steps.specs.Claims.{with_step}
use Rattle.table_steps.specs.Seats.{Seated, homes_of, view_of}
use Rattle.table_steps.specs.Slots.{Aim, slot_of, IsSeated, home_at}
use Rattle.table_steps.specs.Sheds.{shed}

-- the hand gave back one block more: it has the finished root no more, and forgets the start that
-- it noted of it
abbrev pub releases : {P E : Type 0} → Name → View P E → View P E
releases root v =
    record v {
      finished = without (λ x. x) v.finished root;
      noted = without (λ e. e.name) v.noted root;
      released = v.released + 1;
    }

abbrev pub is_own_slot : Layout → Name → ℕ → Bool
is_own_slot l root slot = slot_of l root == slot

-- the hand has the finished root, and its home, which is empty
pub record CanRelease {P E : Type 0} (l : Layout) (m : Seated P E) (root : Name) : Type 0 where
  pub finished : has_name (view_of m).finished root ≡ true
  pub home : home_at l m root ≡ Some None

-- the store: the hand gave the root's home back
pub record ReleasesAt {P E : Type 0} (aim : Aim) (i read left : ℕ)
    (m m' : Seated P E) : Type 0 where
  pub me_is : m' ≡ (
    with_step i read left (releases aim.name (view_of m)),
    shed (is_own_slot aim.layout aim.name) (homes_of m),
  )
  pub seated : IsSeated aim.tree aim.layout m'

-- the word of an open block of this generation
abbrev pub open_at : ℕ → BlockWord
open_at generation = record { generation = generation; state = Open }

-- that word after the block was given back
abbrev pub word_after : ℕ → BlockWord
word_after generation = next_word (open_at generation)

-- the store found the block's word saying that it is open, and left it saying this
pub record LeavesBlock {P E : Type 0} (aim : Aim) (now : BlockWord)
    (m m' : Seated P E) : Type 0 where
  pub read : ℕ
  pub left : ℕ
  pub found : block_read read ≡ open_at aim.name.generation
  pub says : block_read left ≡ now
  pub did : ReleasesAt aim (index aim.layout (OfBlock aim.name.block)) read left m m'

-- what the hand needs, by the block
abbrev pub CanReleaseBlock : {P E O : Type 0} → Frame O → ℕ → ℕ → Seated P E → Type 0
CanReleaseBlock f block generation m =
    CanRelease f.layout m
    (record { block = block; generation = generation; node = length f.tree - 1 })

-- each home of the block is at home, and nothing lies in it
abbrev pub AreHomesEmpty : {P E : Type 0} → Layout → ℕ → table.State (Option P) (View P E) → Type 0
AreHomesEmpty l block s = (n : ℕ) → n < l.nodes →
    get_elem? s.homes (place_number l block n) ≡ some (some None)

module _ {P E O : Type 0} (cargo : Ghosts P E O) where
  -- the table as the newest step of the hand with this number left it: the rule holds, the block's
  -- word reads so, and all its homes are empty
  pub record LeftEmpty (f : Frame O) (hand block : ℕ) (now : BlockWord)
      (m' : Seated P E) : Type 0 where
    pub left : table.State (Option P) (View P E)
    pub runs : Running cargo f left
    pub view : get_elem? left.views hand ≡ some (view_of m')
    pub reads : block_of f.layout left.words block ≡ now
    pub empty : AreHomesEmpty f.layout block left

  -- what the store tells its hand, in each of these tables
  pub record TellsRelease (frames : List (Frame O)) (hand : ℕ) (aim : Aim) (i read left : ℕ)
      (m m' : Seated P E) : Type 0 where
    pub found : block_read read ≡ open_at aim.name.generation
    pub did : ReleasesAt aim i read left m m'
    pub empty : Each
        (λ f. LeftEmpty f hand aim.name.block (word_after aim.name.generation) m') frames

  -- they stay so: whenever the rule holds and the block isn't open, all its homes are empty
  abbrev pub StayEmpty : Frame O → ℕ → Type 0
  StayEmpty f block =
      (s : table.State (Option P) (View P E)) → Running cargo f s →
      is_open (block_of f.layout s.words block).state ≡ false →
      AreHomesEmpty f.layout block s
