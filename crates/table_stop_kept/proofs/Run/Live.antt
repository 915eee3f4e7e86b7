-- What the rule says of the callbacks that a hand runs: their nodes are live.
use Rattle.std.proofs.Common.{◌≡◌, ◌≤◌, true, false, refl, sym, ap, ◌∙◌, arith}
use Rattle.life_rules.specs.declared.event.Name.{Name}
use Rattle.life_rules.specs.Views.{View as PureView}
use Rattle.life_rules.specs.States.{State, is_live, phase_at}
use Rattle.life_rules.specs.declared.words.CallbackPhase.{CallbackPhase}
use Rattle.life_rules.specs.declared.words.CallbackPhase.TheVariants.{Never, Armed, Running as Runs, Ran, Removed}
use Rattle.life_rules.specs.Words.{is_never, is_running}
use Rattle.life_rules.proofs.Readings.{lives}
use Rattle.stop_kept.proofs.Standing.{phase-live, runs-running}
use Rattle.table_rules.specs.declared.cargo.Cargo.{Ghosts}
use Rattle.table_rules.specs.declared.frame.Frame.{Frame}
use Rattle.table_rules.specs.Named.{count_by, Each}
use Rattle.table_rules.specs.ShownWords.{block_of}
use Rattle.table_rules.specs.Scenes.{shown}
use Rattle.table_kept.proofs.Standing.{Standing}
use Rattle.table_kept.proofs.Seats.{at_within}
use Rattle.table_kept.proofs.Entries.{each-map, each-by}
use Rattle.table_kept.proofs.OwedLive.{each-trivial}
use Rattle.table_kept.proofs.ViewMoves.{view-here}

runs-once : (p : CallbackPhase) → is_running p ≡ true → is_never p ≡ false
runs-once Never e = cc
runs-once Armed e = refl
runs-once Runs e = refl
runs-once Ran e = refl
runs-once Removed e = refl

module _ {P E O : Type 0} (cargo : Ghosts P E O) (f : Frame O) (hand : Standing cargo f) where
  open hand use {state as s, id, view as v, running as r, at}

  abbrev now : State
  now = shown f s

  is-shown : (y : Name) → (now.view id).runs y ≡ count_by (λ z. z) v.runs y
  is-shown y = ap (λ (u : PureView). u.runs y) (view-here (block_of f.layout s.words) s.views id v at)

  -- a node whose callback the hand runs is live
  pub run-live : (y : Name) → 1 ≤ count_by (λ z. z) v.runs y → is_live now y ≡ true
  run-live y runs =
      let l = at_within s.views id v at in
      let m = r.sized.seats in
      let e = is-shown y in
      phase-live now y
      (runs-once (phase_at now y) (runs-running now id y r.stands.sound.runs (omega (arith, l, m)) (omega (arith, e, runs))))

  -- so those in the block of a live node are of its generation
  pub runs-beside : (x : Name) → is_live now x ≡ true → Each (λ y. y.block ≡ x.block → y.generation ≡ x.generation) v.runs
  runs-beside x live_x =
      each-map (λ y. is_live now y ≡ true) _
      (λ y live there.
      (lives now y live).generation ∙ ap (λ b. (now.block b).generation) there ∙ sym (lives now x live_x).generation)
      v.runs
      (each-by (λ y. y) (λ _. Unit {0}) (λ y. is_live now y ≡ true) (count_by (λ z. z) v.runs)
      (λ y runs _. run-live y runs) v.runs (λ y. omega arith) (each-trivial v.runs))
