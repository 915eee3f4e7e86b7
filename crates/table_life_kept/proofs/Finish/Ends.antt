-- A node that may end: its callback is settled, and the pure machine may finish it.
use Rattle.std.proofs.Common.{◌≡◌, ℕ, true, false, not, ◌&&◌, ◌||◌, List, sym, ap, subst}
use Rattle.std.specs.Prelude.{Option, Some, None, MatchOption}
use Rattle.std.proofs.lemmas.Bool.{and_from}
use Rattle.life_rules.specs.declared.words.CallbackPhase.{CallbackPhase}
use Rattle.life_rules.specs.declared.words.CallbackPhase.TheVariants.{Never, Armed, Running as Runs, Ran, Removed}
use Rattle.life_rules.specs.declared.event.Name.{Name}
use Rattle.life_rules.specs.Words.{is_armed, is_running}
use Rattle.life_rules.specs.States.{State, phase_at}
use Rattle.life_rules.specs.LifeSteps.{may_leave_node, after_finish}
use Rattle.life_rules.specs.Sound.{Sound}
use Rattle.life_kept.proofs.Finish.{sound-finish}
use Rattle.table_rules.specs.declared.cargo.Cargo.{Ghosts}
use Rattle.table_rules.specs.declared.frame.Frame.{Frame}
use Rattle.table_rules.specs.Scenes.{shown}
use Rattle.table_rules.specs.Notes.{is_still}
use Rattle.table_steps.specs.Slots.{IsSeated}
use Rattle.table_steps.specs.Finishes.{is_settled, CanEnd}
use Rattle.table_kept.proofs.Standing.{Standing}
use Rattle.table_kept.proofs.LiveNames.{place_of, place-live, name-live}
use Rattle.table_kept.proofs.HeldNow.{Holding, phase-so}
use Rattle.table_life_kept.proofs.Leaving.{ToLeave, is-held, is-below, may-leave}

-- a callback that was read as settled isn't armed and doesn't run
settled-still : (known phase : CallbackPhase) → is_settled known ≡ true → is_still known phase →
    (is_armed phase || is_running phase) ≡ false
settled-still Never phase settled still = ap (λ p. is_armed p || is_running p) still
settled-still Armed phase settled still = cc
settled-still Runs phase settled still = cc
settled-still Ran phase settled still = ap (λ p. is_armed p || is_running p) still
settled-still Removed phase settled still = ap (λ p. is_armed p || is_running p) still

settled-option : (known : Option CallbackPhase) (phase : CallbackPhase) → MatchOption known ⊥ (λ p. is_settled p ≡ true) →
    MatchOption known (Unit {0}) (λ p. is_still p phase) → (is_armed phase || is_running phase) ≡ false
settled-option None phase settled still = absurd settled
settled-option (Some known) phase settled still = settled-still known phase settled still

-- which node ends, and what the hand carries of it
pub record ToEnd {P E O : Type 0} {cargo : Ghosts P E O} {f : Frame O}
    (hand : Standing cargo f) : Type 0 where
  pub name : Name
  pub carried : List (ℕ × Option P)
  pub seated : IsSeated f.tree f.layout (hand.view, carried)
  pub end : CanEnd cargo f (hand.view, carried) name

module _ {P E O : Type 0} (cargo : Ghosts P E O) (f : Frame O) (hand : Standing cargo f)
    (task : ToEnd hand) where
  open hand use {state as s, id, view as v, running as r, at}
  open task use {name as x, carried as c, seated, end}

  abbrev state : State
  state = shown f s

  abbrev leaving : ToLeave hand
  leaving = record { name = x; carried = c; seated = seated; leave = end.leave }

  abbrev holding : Holding hand
  holding = record { name = x; entry = end.leave.held; holds = end.leave.holds }

  -- the pure machine may finish the node, and its law keeps its sentences
  pub sound-done : Sound (after_finish state id (place_of x))
  sound-done =
      let held = is-held cargo f hand leaving in
      let name = name-live state x held.live in
      let quiet : (is_armed (phase_at state x) || is_running (phase_at state x)) ≡ false =
      settled-option end.leave.held.phase (phase_at state x) end.phase (phase-so cargo f hand holding) in
      sound-finish state id (place_of x) r.stands.sound (is-below cargo f hand leaving)
      (and_from _ _ (place-live state x held.live)
      (subst (λ z. (may_leave_node (state.view id) z && not (is_armed (phase_at state z) || is_running (phase_at state z))) ≡ true) (sym name)
      (and_from _ _ (may-leave cargo f hand leaving) (ap not quiet))))
