-- What holds in each state that can be reached, and along each list of moves from it.
use Rattle.std.specs.Prelude.{◌≡◌, ◌⊎◌, ℕ, ◌+◌, ◌<◌, ◌≤◌, true, false, List, Some}
use Rattle.life_rules.specs.declared.event.Event.{Event}
use Rattle.life_rules.specs.declared.event.Name.{Name}
use Rattle.life_rules.specs.declared.event.Place.{Place}
use Rattle.life_rules.specs.declared.event.SourceRef.{SourceRef}
use Rattle.life_rules.specs.declared.words.CallbackPhase.TheVariants.{Ran, Removed}
use Rattle.node_tree.specs.Tree.{is_child}
use Rattle.life_rules.specs.Words.{is_idle, is_done, is_armed}
use Rattle.life_rules.specs.Views.{beside}
use Rattle.life_rules.specs.States.{State, size, is_live, name_at, control_at, phase_at, bits_at, nearest_of, stand}
use Rattle.common_lemmas.specs.Sums.{total}
use Rattle.life_rules.specs.LifeSteps.{may_finish, may_release}
use Rattle.life_rules.specs.Steps.{Move, Step, run}
use Rattle.life_rules.specs.Associations.{kept}
use Rattle.life_rules.specs.Requests.{IsNoted}
use Rattle.life_rules.specs.Sound.{Sound}
use Rattle.life_rules.specs.Quiet.{Quiet}
use Rattle.life_laws.specs.Histories.{times, finishes, runs_callback, enters, leaves}
use Rattle.life_laws.specs.Reached.{Reached, first}

-- what is sound stays sound
abbrev pub SoundIsKept : Type 0
SoundIsKept =
    (old : State) (hand : ℕ) (event : Event) (new : State) → Sound old → Step old hand event new →
    Sound new

-- whatever all hands do, the state is sound between any two steps
abbrev pub ReachedIsSound : Type 0
ReachedIsSound = (s : State) → Reached s → Sound s

-- a node is finished at most once a generation
abbrev pub FinishesOnce : Type 0
FinishesOnce = (s : State) → Reached s → (x : Name) (ms : List Move) → times (finishes x) ms s ≤ 1

-- what is done stays done while its generation lasts
abbrev pub StaysDone : Type 0
StaysDone =
    (s : State) → Reached s → (x : Name) (ms : List Move) → is_done (control_at s x) ≡ true →
    is_live (run ms s) x ≡ true → is_done (control_at (run ms s) x) ≡ true

-- a node is finished only when each child that has begun is done and has reported
abbrev pub ParentsWait : Type 0
ParentsWait =
    (s : State) → Reached s → (hand : ℕ) (place : Place) (n : ℕ) → hand < s.hands →
    may_finish s hand place ≡ true → n < size s → is_child s.tree place.node n ≡ true →
    is_idle (control_at s (beside (name_at s place) n)) ≡ false →
    (is_done (control_at s (beside (name_at s place) n)) ≡ true)
    × (stand s (λ v. v.reports) (beside (name_at s place) n) ≡ 0)

-- nothing touches a block any more when it is given back
abbrev pub ReleasesQuiet : Type 0
ReleasesQuiet =
    (s : State) → Reached s → (hand block : ℕ) → hand < s.hands → may_release s hand block ≡ true →
    Quiet s block

-- a callback begins to run at most once a generation
abbrev pub RunsOnce : Type 0
RunsOnce = (s : State) → Reached s → (x : Name) (ms : List Move) → times (runs_callback x) ms s ≤ 1

-- a callback that was removed, or has run, never begins to run again at its generation
abbrev pub StaysRemoved : Type 0
StaysRemoved =
    (s : State) → Reached s → (x : Name) (ms : List Move) →
    ((phase_at s x ≡ Removed) ⊎ (phase_at s x ≡ Ran)) → times (runs_callback x) ms s ≡ 0

-- behind a sealed scan each callback that is still armed was told of the request, or isn't looked
-- after yet
abbrev pub MissesNone : Type 0
MissesNone =
    (s : State) → Reached s → (x : Name) (source : SourceRef) → (bits_at s source).scanned ≡ true →
    nearest_of s x ≡ Some source → is_armed (phase_at s x) ≡ true → IsNoted s x

-- a joined scope has no association but those that are being refused
abbrev pub JoinedIsEmpty : Type 0
JoinedIsEmpty =
    (s : State) → Reached s → s.scope.joined ≡ true → total (λ h. kept (s.view h)) s.hands ≡ 0

-- when the scope is joined, as many associations have left as were made
abbrev pub LeavesOnce : Type 0
LeavesOnce =
    (s : State) (r : Reached s) → s.scope.joined ≡ true →
    times leaves r.moves (first r) ≡ times enters r.moves (first r)

-- the count is at most the scope's greatest number and the number of hands together
abbrev pub CountsFew : Type 0
CountsFew = (s : State) → Reached s → s.scope.count ≤ s.most + s.hands

-- the scope's request stands exactly where hand 0 made it
abbrev pub RequestedByHand0 : Type 0
RequestedByHand0 = (s : State) → Reached s → s.scope_source.requested ≡ (s.view 0).requested
