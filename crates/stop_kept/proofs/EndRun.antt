-- The end of a callback's run, also by a withdrawal from inside it, keeps what is sound.
use Rattle.std.specs.Option.{option_map_or}
use Rattle.std.proofs.Common.{◌≡◌, ℕ, ◌<◌, ◌≤◌, true, false, ◌||◌, Option, Some, refl, sym, ap, ◌∙◌, subst, arith, ◌+◌, ◌-◌}
use Rattle.std.proofs.lemmas.Bool.{and_parts, both_ways, or_left, or_right, leb-true, not-true}
use Rattle.life_rules.specs.declared.event.Name.{Name}
use Rattle.life_rules.specs.declared.event.Place.{Place}
use Rattle.life_rules.specs.declared.event.SourceRef.{SourceRef}
use Rattle.life_rules.specs.declared.event.SourceRef.TheVariants.{Node}
use Rattle.life_rules.specs.declared.words.CallbackPhase.{CallbackPhase}
use Rattle.life_rules.specs.declared.words.CallbackPhase.TheVariants.{Ran, Removed}
use Rattle.life_rules.specs.Words.{is_never, is_armed, is_running, has_run}
use Rattle.life_rules.specs.Views.{View, is_scanning, lose}
use Rattle.common_lemmas.specs.Sums.{one}
use Rattle.life_rules.specs.States.{State, phase_at, nearest_of, with_view, stand, name_at, with_callback, set_at}
use Rattle.life_rules.specs.Scans.{index, is_next_in}
use Rattle.life_rules.specs.StopSteps.{passed, run_over, may_end_run, after_end_run, may_withdraw_own, after_withdraw_own}
use Rattle.life_rules.specs.Sound.{Sound}
use Rattle.common_lemmas.proofs.Bool.{one-true, one-most, one-false}
use Rattle.common_lemmas.proofs.Options.{map_or-some}
use Rattle.life_rules.proofs.Names.{by_name, lose-here, lose-other}
use Rattle.life_rules.proofs.Readings.{stand-at, stand-with_view}
use Rattle.stop_kept.proofs.Standing.{runs-running}
use Rattle.stop_kept.proofs.Phases.{Writes, writes, set_at-shut, begins-written, armed-written}
use Rattle.stop_kept.proofs.ScanAt.{armed-live, passed-but, Next, next_of, place-node, runs-other}
use Rattle.stop_kept.proofs.Passes.{passer, after_passing, Passes, sound-passing}

-- a phase in which a callback is at rest for good
record AtRest (phase : CallbackPhase) : Type 0 where
  never : is_never phase ≡ false
  armed : is_armed phase ≡ false
  running : is_running phase ≡ false

-- a running place that the hand runs, and whose own source it doesn't scan
record Runs (s : State) (h : ℕ) (x : Name) : Type 0 where
  run : 1 ≤ (s.view h).runs x
  unscanned : is_scanning (s.view h) (Node x) ≡ false
  running : is_running (phase_at s x) ≡ true

-- no view runs the place any more
runs-ended : (s : State) (h : ℕ) (x : Name) (u : View) (phase : CallbackPhase) (t : State) →
    Sound s → h < s.hands →
    Runs s h x → AtRest phase → Writes s t x phase → u.runs ≡ lose x (s.view h).runs → (y : Name) →
    stand (with_view s h u) (λ v. v.runs) y ≡ one (is_running (phase_at t y))
runs-ended s h x u phase t sound l r rest wrote lost y =
    let f = (s.view h).runs in
    let moved = stand-with_view s h u (λ a. a.runs) y l in
    let before = sound.runs.runs y in
    let less : u.runs y ≡ lose x f y = ap (λ g. g y) lost in
    by_name y x
    (λ at.
    let here : lose x f y ≡ f y - 1 = subst (λ z. lose x f z ≡ f z - 1) (sym at) (lose-here x f) in
    let old : one (is_running (phase_at s y)) ≡ 1 =
    one-true (subst (λ z. is_running (phase_at s z) ≡ true) (sym at) r.running) in
    let new : one (is_running (phase_at t y)) ≡ 0 =
    one-false (subst (λ z. is_running (phase_at t z) ≡ false) (sym at) (ap is_running wrote.here ∙ rest.running)) in
    let run : 1 ≤ f y = subst (λ z. 1 ≤ f z) (sym at) r.run in
    omega (arith, moved, before, less, here, old, new, run))
    (λ other.
    let kept = lose-other x y f (λ at. other (sym at)) in
    let alike = ap (λ g. one (is_running g)) (wrote.there y other) in
    omega (arith, moved, before, less, kept, alike))

-- the view doesn't run the place twice
others-run : (s : State) (h : ℕ) (x : Name) → Sound s → h < s.hands → (y : Name) →
    1 ≤ lose x (s.view h).runs y →
    (1 ≤ (s.view h).runs y) × (y ≡ x → ⊥)
others-run s h x sound l y run =
    let f = (s.view h).runs in
    let part = stand-at s (λ v. v.runs) h y l in
    let word = sound.runs.runs y in
    let most = one-most (is_running (phase_at s y)) in
    let before : 1 ≤ f y = omega (arith, run) in (
      before,
      λ at.
          let here : lose x f y ≡ f y - 1 = subst (λ z. lose x f z ≡ f z - 1) (sym at) (lose-here x f) in
          absurd (omega (arith, run, part, word, most, here)),
    )

ended : (s : State) (h : ℕ) (p : Place) (phase : CallbackPhase) (source : SourceRef) → Sound s →
    h < s.hands →
    (g : Next s (s.view h) source p.block p.node) → Runs s h (name_at s p) → AtRest phase →
    Passes s h (set_at s.callback p.block p.node phase)
    (lose (name_at s p) (s.view h).runs) source g.i
    (index s (name_at s p) + 1)
ended s h p phase source sound l g r rest =
    let v = s.view h in
    let x = name_at s p in
    let u : View = passer v (lose x v.runs) source (index s x + 1) in
    let w : ℕ → View = (with_view s h u).view in
    let c : ℕ → ℕ → CallbackPhase = set_at s.callback p.block p.node phase in
    let t : State = after_passing s h c (lose x v.runs) source (index s x + 1) in
    let wrote : Writes s t x phase = writes s p phase w (sound.armed x (or_right _ _ r.running)) in
    record {
      at = g.at;
      shut = set_at-shut s s.callback x phase wrote.live;
      begins = begins-written s c w x phase sound.begins wrote;
      armed = armed-written s c w x phase sound.armed wrote;
      runs = runs-ended s h x u phase t sound l r rest wrote refl;
      others = λ y run.
          let old = others-run s h x sound l y run in
          (old.0, λ near. old.1 (runs-other s h source p.block p.node sound l g y old.0 near));
      ran = λ y e.
          by_name y x
          (λ at. or_left _ _ (subst (λ z. is_running (phase_at s z) ≡ true) (sym at) r.running))
          (λ other. subst (λ f. (is_running f || has_run f) ≡ true) (wrote.there y other) e);
      within = λ y e.
          lose-other x y v.runs
          (λ at. both_ways _ r.unscanned (subst (λ z. is_scanning v (Node z) ≡ true) (sym at) e));
      never = λ y e.
          by_name y x
          (λ at. subst (λ z. is_never (phase_at t z) ≡ false) (sym at) (ap is_never wrote.here ∙ rest.never))
          (λ other. ap is_never (wrote.there y other) ∙ e);
      still = λ y e.
          let other : y ≡ x → ⊥ = λ at.
          both_ways _ (ap is_armed wrote.here ∙ rest.armed) (subst (λ z. is_armed (phase_at t z) ≡ true) at e) in
          let armed : is_armed (phase_at s y) ≡ true =
          subst (λ f. is_armed f ≡ true) (wrote.there y other) e in (
            armed,
            λ near.
                passed-but s source g.i p.block p.node y g.node (armed-live s y armed) g.next near other,
          );
    }

sound-ended : (s : State) (h : ℕ) (p : Place) (phase : CallbackPhase) → Sound s → h < s.hands →
    may_end_run s h p ≡ true → AtRest phase →
    Sound (with_view (with_callback s p.block p.node phase) h (run_over s (name_at s p) (s.view h)))
sound-ended s h p phase sound l may rest =
    let v = s.view h in
    let x = name_at s p in
    let a = and_parts _ _ may in
    let b = and_parts _ _ a.1 in
    let run : 1 ≤ v.runs x = leb-true _ _ b.0 in
    let r : Runs s h x =
    record { run = run; unscanned = not-true _ b.1; running = runs-running s h x sound.runs l run } in
    let near = map_or-some (λ source. is_next_in s v source x) (nearest_of s x) (sound.runs.next h x l run) in
    let source : SourceRef = near.0 in
    let g : Next s v source p.block p.node =
    next_of s v source p.block p.node (place-node s p a.0) near.2 in
    let c : ℕ → ℕ → CallbackPhase = set_at s.callback p.block p.node phase in
    let lost : View = record v { runs = lose x v.runs } in
    let over : Option SourceRef → State = λ o.
    with_view (with_callback s p.block p.node phase) h (option_map_or (λ t. passed s t x lost) o lost) in
    let done : Sound (over (Some source)) =
    sound-passing s h c (lose x v.runs) source g.i (index s x + 1)
    (ended s h p phase source sound l g r rest) sound in
    subst (λ o. Sound (over o)) (sym near.1) done

pub sound-end_run : (s : State) (h : ℕ) (p : Place) → Sound s → h < s.hands →
    may_end_run s h p ≡ true →
    Sound (after_end_run s h p)
sound-end_run s h p sound l may =
    sound-ended s h p Ran sound l may (record { never = refl; armed = refl; running = refl })

pub sound-withdraw_own : (s : State) (h : ℕ) (p : Place) → Sound s → h < s.hands →
    may_withdraw_own s h p ≡ true →
    Sound (after_withdraw_own s h p)
sound-withdraw_own s h p sound l may =
    sound-ended s h p Removed sound l (and_parts _ _ may).0
    (record { never = refl; armed = refl; running = refl })
