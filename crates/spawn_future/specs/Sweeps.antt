-- What `sweep` does with the futures that are abandoned.
use Rattle.std.specs.Prelude.{◌≡◌, ◌≢◌, ◌⊎◌, ℕ, zero, suc, ◌+◌, ◌<◌, true, false, List, ◌++◌, length, Option, Some, None, slice_index_or}
use Rattle.life_rules.specs.declared.event.Name.{Name}
use Rattle.life_rules.specs.declared.event.Resting.TheVariants.{Loop}
use Rattle.listed_words.specs.declared.seen.Seen.{Seen}
use Rattle.plan_shape.specs.Blueprint.{Blueprint}
use Rattle.table_steps.specs.declared.block.Block.{Block}
use Rattle.table_steps.specs.Slots.{noted_at}
use Rattle.table_steps.specs.Steps.{control_index}
use Rattle.table_steps.specs.Takes.{rest_word}
use Rattle.table_steps.specs.Views.{Board}
use Rattle.table_steps.specs.Seats.{Seated, view_of}
use Rattle.home_items.specs.declared.entry.Entry.{Entry}
use Rattle.home_items.specs.declared.item.Item.{Item}
use Rattle.exec_recv.specs.Asides.{Aside, aside_of, SeesMore}
use Rattle.node_walks.specs.declared.completing.Ended.{Ended}
use Rattle.exec_recv.specs.Since.{HasReadSince}
use Rattle.spawn_future.specs.declared.future.Future.{Future}
use Rattle.spawn_future.specs.Keeping.{root_of}
use Rattle.spawn_future.specs.Polls.{EndsSlotAt, IsIncomplete}
use Rattle.spawn_future.specs.Slots.{Has, kept_in, abandoned_block}

-- The slot's future, which is in this block, was abandoned and complete, and was ended.
pub record EndsSlot (board : Board Blueprint) (t : ℕ) (old new : List (Option Future))
    (m m' : Seated Item Entry) : Type 0 where
  pub block : Block
  pub found : abandoned_block (slice_index_or old t None) ≡ Some block
  pub ended : Ended
  pub ends : EndsSlotAt board t block old new m m' ended

-- The slot has no future that is abandoned, and there was no step.
pub record PassesSlot (t : ℕ) (old new : List (Option Future)) (m m' : Seated Item Entry)
    : Type 0 where
  pub none : abandoned_block (slice_index_or old t None) ≡ None
  pub slots : new ≡ old
  pub same : m' ≡ m

-- It has one, which wasn't complete.
pub record LooksAtSlot (board : Board Blueprint) (t : ℕ) (old new : List (Option Future))
    (m m' : Seated Item Entry) : Type 0 where
  pub block : Block
  pub found : abandoned_block (slice_index_or old t None) ≡ Some block
  pub incomplete : IsIncomplete board block old new m m'

abbrev pub LeavesSlot : Board Blueprint → ℕ → List (Option Future) → List (Option Future)
    → Seated Item Entry → Seated Item Entry → Type 0
LeavesSlot board t old new m m' =
    PassesSlot t old new m m' ⊎ LooksAtSlot board t old new m m'

-- The word of the future's root was read, and didn't say that it is ready in the loop.
abbrev pub WasIncomplete : Board Blueprint → Seated Item Entry → Seated Item Entry → Future → Type 0
WasIncomplete board m m' f =
    HasReadSince (control_index board (root_of board f))
    (λ word. word ≢ rest_word (root_of board f) Loop) m m'

-- What a hand's view says beside notes, associations and blocks given back.
abbrev pub beside_ended : Aside → Aside → Aside
beside_ended before a = record a {
  noted = before.noted;
  made = before.made;
  released = before.released;
}

-- No abandoned future has this root.
abbrev pub IsOfNone : Board Blueprint → List (Option Future) → Name → Type 0
IsOfNone board slots x =
    (t : ℕ) (f : Future) → Has slots t f → f.abandoned ≡ true → root_of board f ≡ x → ⊥

-- So many operations were ended, each of an abandoned future: so many associations are left, and
-- so many blocks given back. Notes of other roots are as they were.
pub record EndsSome (board : Board Blueprint) (old : List (Option Future)) (count : ℕ)
    (m m' : Seated Item Entry) : Type 0 where
  pub aside : beside_ended (aside_of (view_of m)) (aside_of (view_of m')) ≡ aside_of (view_of m)
  pub made : (view_of m').made + count ≡ (view_of m).made
  pub released : (view_of m').released ≡ (view_of m).released + count
  pub noted : (x : Name) → IsOfNone board old x → noted_at (view_of m') x ≡ noted_at (view_of m) x
  pub fresh : List Seen
  pub grown : (view_of m').steps ≡ fresh ++ (view_of m).steps
  pub sees : SeesMore m m'

-- Of the first so many slots each future that is abandoned was ended, where it was complete, and
-- there were so many of these.
pub record SweepsTo (board : Board Blueprint) (slots count : ℕ) (old new : List (Option Future))
    (m m' : Seated Item Entry) : Type 0 where
  pub as_many : length new ≡ length old
  pub stays : (t : ℕ) (f : Future) → Has new t f → Has old t f
  pub waited : (t : ℕ) (f : Future) → Has old t f → f.abandoned ≡ false → Has new t f
  pub kept : kept_in old ≡ kept_in new + count
  pub read : (t : ℕ) (f : Future) → t < slots → Has new t f → f.abandoned ≡ true
      → WasIncomplete board m m' f
  pub ends : EndsSome board old count m m'

-- so it was of all
abbrev pub Sweeps : Board Blueprint → List (Option Future) → List (Option Future)
    → Seated Item Entry → Seated Item Entry → ℕ → Type 0
Sweeps board old new m m' count = SweepsTo board (length old) count old new m m'

-- After this the slot was swept: its future was ended, or left.
pub record SweepsAfter (board : Board Blueprint) (t : ℕ)
    (Before : List (Option Future) → Seated Item Entry → Type 0) (new : List (Option Future))
    (m' : Seated Item Entry) : Type 0 where
  pub slots : List (Option Future)
  pub between : Seated Item Entry
  pub before : Before slots between
  pub swept : EndsSlot board t slots new between m' ⊎ LeavesSlot board t slots new between m'

-- So the first so many slots were, one after the other. Nothing else was done.
abbrev pub SweepsFirst : Board Blueprint → ℕ → List (Option Future) → List (Option Future)
    → Seated Item Entry → Seated Item Entry → Type 0
SweepsFirst board zero old new m m' = (new ≡ old) × (m' ≡ m)
SweepsFirst board (suc t) old new m m' =
    SweepsAfter board t (λ slots between. SweepsFirst board t old slots m between) new m'
