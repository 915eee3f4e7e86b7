-- What a turn leaves of a hand's view and of the futures that it keeps.
use Rattle.std.specs.Prelude.{◌≡◌, ℕ, ◌+◌, false, List, ◌++◌, count_by, Option, Some}
use Rattle.std.specs.Option.{option_map_or}
use Rattle.life_rules.specs.declared.event.Name.{Name}
use Rattle.life_rules.specs.Views.{same}
use Rattle.listed_words.specs.declared.seen.Seen.{Seen}
use Rattle.plan_shape.specs.Blueprint.{Blueprint}
use Rattle.table_rules.specs.declared.view.Rooted.{Rooted}
use Rattle.table_steps.specs.Slots.{noted_at}
use Rattle.table_steps.specs.Views.{Board}
use Rattle.table_steps.specs.Seats.{Seated, view_of}
use Rattle.home_items.specs.declared.entry.Entry.{Entry}
use Rattle.home_items.specs.declared.item.Item.{Item}
use Rattle.exec_recv.specs.Asides.{Aside, aside_of, SeesMore}
use Rattle.spawn_future.specs.declared.future.Future.{Future}
use Rattle.spawn_future.specs.Keeping.{root_of}
use Rattle.spawn_future.specs.Slots.{Has, kept_in}

-- What a hand's view says beside notes, associations, and blocks claimed and given back.
abbrev pub beside_blocks : Aside → Aside → Aside
beside_blocks before a = record a {
  noted = before.noted;
  made = before.made;
  claimed = before.claimed;
  released = before.released;
}

-- No future, abandoned or not, has this root.
abbrev pub IsOfNoFuture : Board Blueprint → List (Option Future) → Name → Type 0
IsOfNoFuture board slots x = (t : ℕ) (f : Future) → Has slots t f → root_of board f ≡ x → ⊥

-- So many notes name this root, and so many futures have it.
abbrev pub notes_of : Name → Seated Item Entry → ℕ
notes_of x m = count_by (λ (e : Rooted Entry). same e.name x) (view_of m).noted

abbrev pub futures_of : Board Blueprint → Name → List (Option Future) → ℕ
futures_of board x slots =
    count_by (λ o. option_map_or (λ (f : Future). same (root_of board f) x) o false) slots

-- What was noted of roots that are of no future is noted still, and they are of none. Of each root
-- there are as many notes more as there are futures more.
pub record KeepsNotes (board : Board Blueprint) (old new : List (Option Future))
    (m m' : Seated Item Entry) : Type 0 where
  pub noted : (x : Name) (e : Rooted Entry) → IsOfNoFuture board old x →
      noted_at (view_of m) x ≡ Some e → noted_at (view_of m') x ≡ Some e
  pub apart : (x : Name) (e : Rooted Entry) → IsOfNoFuture board old x →
      noted_at (view_of m) x ≡ Some e → IsOfNoFuture board new x
  pub balance : (x : Name) →
      notes_of x m' + futures_of board x old ≡ notes_of x m + futures_of board x new

-- So many operations were begun, and so many ended: for each that was begun there is a future, an
-- association and a claimed block more, and for each that was ended a future and an association
-- less, and a block given back.
pub record BeginsAndEnds (board : Board Blueprint) (old new : List (Option Future))
    (m m' : Seated Item Entry) : Type 0 where
  pub begun : ℕ
  pub ended : ℕ
  pub kept : kept_in new + ended ≡ kept_in old + begun
  pub made : (view_of m').made + ended ≡ (view_of m).made + begun
  pub claimed : (view_of m').claimed ≡ (view_of m).claimed + begun
  pub released : (view_of m').released ≡ (view_of m).released + ended
  pub aside : beside_blocks (aside_of (view_of m)) (aside_of (view_of m')) ≡ aside_of (view_of m)
  pub notes : KeepsNotes board old new m m'
  pub fresh : List Seen
  pub grown : (view_of m').steps ≡ fresh ++ (view_of m).steps
  pub sees : SeesMore m m'
