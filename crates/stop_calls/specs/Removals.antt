-- What it takes to remove a callback or to end its run, and what that tells
-- ([stopcallback.inplace.cons]).
use Rattle.std.specs.Prelude.{◌≡◌, ℕ, zero, suc, ◌≤◌, true, Option, Some, None}
use Rattle.life_rules.specs.declared.words.CallbackPhase.{CallbackPhase}
use Rattle.life_rules.specs.declared.words.CallbackPhase.TheVariants.{Armed, Running as Runs, Ran as HasRun}
use Rattle.life_rules.specs.declared.event.Name.{Name}
use Rattle.life_rules.specs.declared.event.SourceRef.TheVariants.{Node}
use Rattle.atomic_table.specs.declared.shared.Seat.{Seat}
use Rattle.table_rules.specs.declared.view.View.{View}
use Rattle.table_rules.specs.declared.view.Held.{Held}
use Rattle.table_rules.specs.Named.{find_by}
use Rattle.table_rules.specs.ShownViews.{scan_in}
use Rattle.table_steps.specs.Views.{Board, knows}
use Rattle.table_steps.specs.Remembers.{running}
use Rattle.table_steps.specs.Hearings.{UnderScope}
use Rattle.table_steps.specs.Callbacks.{is_registered, IsWithdrawn}
use Rattle.table_steps.specs.RunEnds.{IsRunEnded, IsOwnWithdrawn}
use Rattle.stop_calls.specs.declared.removing.Withdrawn.{Withdrawn}
use Rattle.stop_calls.specs.declared.removing.Withdrawn.TheVariants.{NeverRan, Ran, OwnHand, Running}
use Rattle.stop_calls.specs.declared.removing.Settled.{Settled}
use Rattle.stop_calls.specs.declared.removing.Settled.TheVariants.{NeverRan as Unrun, Ran as Over, OwnHand as Inside}

-- where the view runs the callback, it makes no scan of the node's own source
abbrev pub MayEndRun : {P E : Type 0} → View P E → Name → Type 0
MayEndRun v x = 1 ≤ running v x → scan_in v.scans (Node x) ≡ None

-- the view holds the node, and has read that its callback was registered
pub record MayWithdraw {P E : Type 0} (v : View P E) (x : Name) : Type 0 where
  pub held : Held E
  pub holds : find_by (λ e. e.name) v.held x ≡ Some held
  pub known : CallbackPhase
  pub known_is : held.phase ≡ Some known
  pub registered : is_registered known ≡ true
  pub unscanned : MayEndRun v x

module _ {P E O : Type 0} (board : Board O) (x : Name) (old new : Seat (Option P) (View P E)) where
  -- the run ends; or it was over, since the callback was removed from inside it, and nothing is
  -- done
  pub record IsOver : Type 0 where
    pub ends : 1 ≤ running (knows old) x → IsRunEnded board x old new
    pub was_removed : running (knows old) x ≡ 0 → new.me ≡ old.me

  -- the hand doesn't run the callback, and read this phase
  pub record IsReadAs (phase : CallbackPhase) : Type 0 where
    pub unrun : running (knows old) x ≡ 0
    pub told : IsWithdrawn board x phase old new

  -- the hand ran the callback, which is removed from inside
  pub record IsInside : Type 0 where
    pub runs : 1 ≤ running (knows old) x
    pub told : IsOwnWithdrawn board x old new

  -- what a try answers
  abbrev pub IsTried : Withdrawn → Type 0
  IsTried NeverRan = IsReadAs Armed
  IsTried Ran = IsReadAs HasRun
  IsTried Running = IsReadAs Runs
  IsTried OwnHand = IsInside

  abbrev pub IsLastTry : Settled → Type 0
  IsLastTry Unrun = IsReadAs Armed
  IsLastTry Over = IsReadAs HasRun
  IsLastTry Inside = IsInside

module _ {P E O : Type 0} (board : Board O) (x : Name) where
  -- so many tries, each of which found a run of another hand
  abbrev pub Waits : ℕ → Seat (Option P) (View P E) → Seat (Option P) (View P E) → Type 0
  Waits zero old new = new.me ≡ old.me
  Waits (suc count) old new =
      (middle : Seat (Option P) (View P E)) × Waits count old middle
      × IsTried board x middle new Running

  -- and then one that found none. Hand 0 doesn't wait under the scope, whose callbacks no other
  -- hand runs
  pub record IsSettled (old new : Seat (Option P) (View P E)) (answer : Settled) : Type 0 where
    pub count : ℕ
    pub middle : Seat (Option P) (View P E)
    pub waited : Waits count old middle
    pub last : IsLastTry board x middle new answer
    pub at_once : UnderScope board.frame.tree (knows old) x (count ≡ 0)
