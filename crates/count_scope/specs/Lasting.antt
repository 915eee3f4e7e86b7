-- What a call on a scope left stays so, in every table that keeps the rule and in which some hand
-- still lists the call's steps: whatever steps the hands made since.
use Rattle.std.specs.Prelude.{◌≡◌, ℕ, true, Option, Ok}
use Rattle.atomic_table.specs.Table as table
use Rattle.atomic_table.specs.declared.shared.Seat.{Seat}
use Rattle.table_words.specs.ScopeNumbers.{scope_read}
use Rattle.table_rules.specs.declared.cargo.Cargo.{Ghosts}
use Rattle.table_rules.specs.declared.frame.Frame.{Frame}
use Rattle.table_rules.specs.declared.view.View.{View}
use Rattle.table_rules.specs.ShownWords.{scope_of}
use Rattle.table_rules.specs.Running.{Running}
use Rattle.table_steps.specs.Seats.{Seated}
use Rattle.table_laws.specs.Lasting.{StillLists, IsEmptied}
use Rattle.count_scope.specs.declared.members.Association.{Association}
use Rattle.count_scope.specs.declared.joining.JoinStart.TheVariants.{Joined}
use Rattle.count_scope.specs.Tries.{AreTries}
use Rattle.count_scope.specs.Leaves.{emptied, Leaves}
use Rattle.count_scope.specs.Associations.{Associates}
use Rattle.count_scope.specs.Joins.{Starts}
use Rattle.count_scope.specs.Looks.{Closes}

-- the leave's tries ended with a seal
abbrev pub HasSealed : {P E : Type 0} → (m m' : Seated P E) → Leaves m m' → Type 0
HasSealed m m' did = AreTries (emptied (scope_read did.word)) (Ok tt) did.words did.last

module _ {P E O : Type 0} (cargo : Ghosts P E O) where
  -- where a join was answered by joined, no association is made any more
  abbrev pub StartedIsEmpty : Type 0
  StartedIsEmpty =
      (m : Seated P E) (new : Seat (Option P) (View P E)) → Starts Joined m new.me →
      (f : Frame O) (s : table.State (Option P) (View P E)) → Running cargo f s → StillLists new s →
      IsEmptied f s

  -- nor where the association that was left last sealed the scope
  abbrev pub LeftIsEmpty : Type 0
  LeftIsEmpty =
      (m : Seated P E) (new : Seat (Option P) (View P E)) → (did : Leaves m new.me) →
      HasSealed m new.me did → (f : Frame O) (s : table.State (Option P) (View P E)) →
      Running cargo f s → StillLists new s → IsEmptied f s

  -- once an association was made, the scope is never unused again
  abbrev pub AssociatedIsUsed : Type 0
  AssociatedIsUsed =
      (most : ℕ) (place : Association) (m : Seated P E) (new : Seat (Option P) (View P E)) →
      Associates most (Ok place) m new.me → (f : Frame O) (s : table.State (Option P) (View P E)) →
      Running cargo f s → StillLists new s → (scope_of f.layout s.words).used ≡ true

  -- and once it was closed, it is never open again
  abbrev pub ClosedStays : Type 0
  ClosedStays =
      (m : Seated P E) (new : Seat (Option P) (View P E)) → Closes m new.me →
      (f : Frame O) (s : table.State (Option P) (View P E)) → Running cargo f s → StillLists new s →
      (scope_of f.layout s.words).closed ≡ true
