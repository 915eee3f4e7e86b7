-- A scan's look at its next place keeps what is sound: an armed callback runs, another place is passed.
use Rattle.std.specs.Option.{option_map_or}
use Rattle.std.proofs.Common.{◌≡◌, ℕ, ◌<◌, ◌≤◌, true, false, ◌||◌, is_some, inl, inr, refl, sym, ap, ◌∙◌, subst, arith, ◌+◌}
use Rattle.std.proofs.lemmas.Bool.{and_parts, both_ways, or_left, eqb-true, cond_both}
use Rattle.life_rules.specs.declared.event.Name.{Name}
use Rattle.life_rules.specs.declared.event.Place.{Place}
use Rattle.life_rules.specs.declared.event.SourceAt.{SourceAt}
use Rattle.life_rules.specs.declared.event.SourceRef.{SourceRef}
use Rattle.life_rules.specs.declared.event.SourceRef.TheVariants.{Scope, Node}
use Rattle.life_rules.specs.declared.words.CallbackPhase.{CallbackPhase}
use Rattle.life_rules.specs.declared.words.CallbackPhase.TheVariants.{Armed, Running}
use Rattle.life_rules.specs.Words.{is_never, is_armed, is_running, has_run}
use Rattle.life_rules.specs.Views.{View, same, gain}
use Rattle.common_lemmas.specs.Sums.{one}
use Rattle.life_rules.specs.States.{State, phase_at, bits_at, with_view, name_at, set_at, name_of}
use Rattle.common_lemmas.specs.Sums.{total}
use Rattle.life_rules.specs.Scans.{index, HasPassed}
use Rattle.life_rules.specs.StopSteps.{passed, source_of, may_run, after_run}
use Rattle.life_rules.specs.Callbacks.{RunsAreScanned, is_next_of_nearest, nearest_is_requested}
use Rattle.life_rules.specs.Requests.{WasPassed, IsNoted, may_scan}
use Rattle.life_rules.specs.Sound.{Sound}
use Rattle.common_lemmas.proofs.Bool.{one-true, one-false}
use Rattle.life_rules.proofs.Names.{same-refl, same-other, by_name}
use Rattle.life_rules.proofs.Readings.{stand-with_view}
use Rattle.stop_kept.proofs.StopFrames.{changed, related, SameRoles, owned-kept, counted-kept, associations-kept, next-frame}
use Rattle.stop_kept.proofs.Phases.{Writes, writes, set_at-shut, begins-written, armed-written, armed-is}
use Rattle.stop_kept.proofs.Notes.{is_noted}
use Rattle.stop_kept.proofs.ScanAt.{armed-live, passed-but, Next, next_of, place-node, runs-other, next-of}
use Rattle.stop_kept.proofs.Passes.{passer, Passes, sound-passing}

passes-over : (s : State) (h : ℕ) (source : SourceRef) (b n : ℕ) → Sound s → h < s.hands →
    (g : Next s (s.view h) source b n) → (s.view h).runs (name_of s b n) ≡ 0 →
    is_armed (phase_at s (name_of s b n)) ≡ false →
    Passes s h s.callback (s.view h).runs source g.i (index s (name_of s b n) + 1)
passes-over s h source b n sound l g idle unarmed =
    let v = s.view h in
    let x : Name = name_of s b n in
    record {
      at = g.at;
      shut = λ b n shut. refl;
      begins = λ y e. let fresh = sound.begins y e in
          record { callback = fresh.callback; source = fresh.source; children = fresh.children };
      armed = sound.armed;
      runs = λ y.
          ap (λ f. total f s.hands)
          (λ k i. related s h (passer v v.runs source (index s x + 1)) (λ v u. u.runs y ≡ v.runs y)
          (λ _. refl) refl i k)
          ∙ sound.runs.runs y;
      others = λ y run. (
        run,
        λ near.
            let at : y ≡ x = runs-other s h source b n sound l g y run near in
            let none : v.runs y ≡ 0 = ap v.runs at ∙ idle in
            absurd (omega (arith, run, none)),
      );
      ran = λ y e. e;
      within = λ y e. refl;
      never = λ y e. e;
      still = λ y armed. (
        armed,
        λ near.
            passed-but s source g.i b n y g.node (armed-live s y armed) g.next near
            (λ at. both_ways _ unarmed (subst (λ z. is_armed (phase_at s z) ≡ true) at armed)),
      );
    }

-- the view of the hand that runs x too
abbrev runner : State → ℕ → Name → View
runner s h x = let v = s.view h in record v { runs = gain x v.runs }

abbrev after_start : State → ℕ → Place → State
after_start s h p =
    changed s (set_at s.callback p.block p.node Running) s.source s.scope_source
    (with_view s h (runner s h (name_at s p))).view

runs-start : (s : State) (h : ℕ) (p : Place) (source : SourceRef) → Sound s → h < s.hands →
    Next s (s.view h) source p.block p.node → Writes s (after_start s h p) (name_at s p) Running →
    phase_at s (name_at s p) ≡ Armed → RunsAreScanned (after_start s h p)
runs-start s h p source sound l g wrote was =
    let v = s.view h in
    let x = name_at s p in
    let u : View = runner s h x in
    let w : ℕ → View = (with_view s h u).view in
    let c : ℕ → ℕ → CallbackPhase = set_at s.callback p.block p.node Running in
    let t : State = after_start s h p in
    let gained : (y : Name) → (y ≡ x → ⊥) → gain x v.runs y ≡ v.runs y = λ y other.
    let none = one-false (same-other x y (λ at. other (sym at))) in omega (arith, none) in
    record {
      runs = λ y.
          let moved = stand-with_view s h u (λ a. a.runs) y l in
          let before = sound.runs.runs y in
          by_name y x
          (λ at.
          let here : gain x v.runs y ≡ v.runs y + 1 =
          ap (λ n. v.runs y + n) (one-true (subst (λ z. same x z ≡ true) (sym at) (same-refl x))) in
          let old : one (is_running (phase_at s y)) ≡ 0 =
          ap (λ z. one (is_running (phase_at s z))) at ∙ ap (λ f. one (is_running f)) was in
          let new : one (is_running (phase_at t y)) ≡ 1 =
          ap (λ z. one (is_running (phase_at t z))) at ∙ ap (λ f. one (is_running f)) wrote.here in
          omega (arith, moved, before, here, old, new))
          (λ other.
          let same = gained y other in
          let alike = ap (λ f. one (is_running f)) (wrote.there y other) in
          omega (arith, moved, before, same, alike));
      next = λ k y below.
          related s h u
          (λ v a. (1 ≤ v.runs y → is_next_of_nearest s v y ≡ true) → 1 ≤ a.runs y →
          is_next_of_nearest t a y ≡ true)
          (λ v f run. next-frame s c s.source s.scope_source w v v y (λ a near. refl) ∙ f run)
          (λ f run.
          next-frame s c s.source s.scope_source w v u y (λ a near. refl)
          ∙ by_name y x
          (λ at. subst (λ z. is_next_of_nearest s v z ≡ true) (sym at) (next-of s v source p.block p.node g))
          (λ other. f (subst (λ n. 1 ≤ n) (gained y other) run)))
          k (sound.runs.next k y below);
      cause = λ y e.
          by_name y x
          (λ at.
          subst (λ z. nearest_is_requested s z ≡ true) (sym at)
          (subst (λ o. option_map_or (λ a. (bits_at s a).requested) o false ≡ true) (sym g.near)
          (sound.scans.cause h source l (ap is_some g.at)).requested))
          (λ other.
          sound.runs.cause y
          (subst (λ f. (is_running f || has_run f) ≡ true) (wrote.there y other) e));
    }

passed-start : (s : State) (h : ℕ) (p : Place) (y : Name) (a : SourceRef) →
    WasPassed (after_start s h p) a y → WasPassed s a y
passed-start s h p y a was =
    elim was [
      | inl scanned ↦ inl scanned
      | inr by ↦
          let before : HasPassed s (s.view by.0) a y =
          related s h (runner s h (name_at s p)) (λ v b. HasPassed s b a y → HasPassed s v a y) (λ _ q. q)
          (λ q. q) by.0 by.2 in
          inr (by.0, by.1, before)
    ]

sound-start : (s : State) (h : ℕ) (p : Place) (source : SourceRef) → Sound s → h < s.hands →
    Next s (s.view h) source p.block p.node → is_armed (phase_at s (name_at s p)) ≡ true →
    Sound (after_start s h p)
sound-start s h p source sound l g armed =
    let x = name_at s p in
    let u : View = runner s h x in
    let w : ℕ → View = (with_view s h u).view in
    let c : ℕ → ℕ → CallbackPhase = set_at s.callback p.block p.node Running in
    let t : State = after_start s h p in
    let was : phase_at s x ≡ Armed = armed-is (phase_at s x) armed in
    let wrote : Writes s t x Running = writes s p Running w (sound.armed x (or_left _ _ armed)) in
    let roles : (k : ℕ) → SameRoles (s.view k) (w k) = related s h u SameRoles (λ _. refl) refl in
    let scan : (k : ℕ) → (w k).scan ≡ (s.view k).scan = related s h u (λ v a. a.scan ≡ v.scan) (λ _. refl) refl in
    let noted : (k : ℕ) (y : Name) → is_noted (w k) y ≡ is_noted (s.view k) y = λ k y.
    related s h u (λ v a. is_noted a y ≡ is_noted v y) (λ _. refl) refl k in
    record {
      tree = sound.tree;
      hands = sound.hands;
      owned = owned-kept s c s.source s.scope_source w sound.owned roles
          (set_at-shut s s.callback x Running wrote.live) (λ b n shut. refl);
      counted = counted-kept s c s.source s.scope_source w sound.counted roles;
      begins = begins-written s c w x Running sound.begins wrote;
      armed = armed-written s c w x Running sound.armed wrote;
      runs = runs-start s h p source sound l g wrote was;
      scans = record {
        single = λ a.
            let sums = ap (λ f. total f s.hands) (λ d k. one (is_some (scan k d a))) in
            let before = sound.scans.single a in
            omega (arith, sums, before);
        cause = λ k a below e.
            let old = sound.scans.cause k a below (sym (ap (λ f. is_some (f a)) (scan k)) ∙ e) in
            record { requested = old.requested; unscanned = old.unscanned };
        within = λ k y below e.
            let before : 1 ≤ may_scan s (s.view k) y =
            sound.scans.within k y below (sym (ap (λ f. is_some (f (Node y))) (scan k)) ∙ e) in
            let more : may_scan s (s.view k) y ≤ may_scan s (w k) y =
            related s h u (λ v a. may_scan s v y ≤ may_scan s a y) (λ _. omega arith) (omega arith) k in
            omega (arith, before, more);
        sealed = sound.scans.sealed;
      };
      requests = record {
        cause = sound.requests.cause;
        seen = λ k a below e.
            let seen : (s.view k).seen ≡ (w k).seen =
            related s h u (λ v b. v.seen ≡ b.seen) (λ _. refl) refl k in
            sound.requests.seen k a below (ap (λ f. f a) seen ∙ e);
        noted = λ k y below e.
            by_name y x
            (λ at. subst (λ z. is_never (phase_at t z) ≡ false) (sym at) (ap is_never wrote.here))
            (λ other.
            ap is_never (wrote.there y other)
            ∙ sound.requests.noted k y below (sym (noted k y) ∙ e));
      };
      missed = λ y a near still passed.
          by_name y x
          (λ at.
          absurd (both_ways _ (ap is_armed wrote.here)
          (subst (λ z. is_armed (phase_at t z) ≡ true) at still)))
          (λ other.
          let n : IsNoted s y =
          sound.missed y a near (subst (λ f. is_armed f ≡ true) (wrote.there y other) still)
          (passed-start s h p y a passed) in
          (n.0, n.1, noted n.0 y ∙ n.2));
      associations = associations-kept s c s.source s.scope_source w sound.associations roles;
      scope = record {
        by_hand_0 = sound.scope.by_hand_0
            ∙ related s h u (λ v b. v.requested ≡ b.requested) (λ _. refl) refl 0;
        scan = λ k below e. sound.scope.scan k below (sym (ap (λ f. is_some (f Scope)) (scan k)) ∙ e);
      };
    }

pub sound-run : (s : State) (h : ℕ) (at : SourceAt) (p : Place) → Sound s → h < s.hands →
    may_run s h at p ≡ true → Sound (after_run s h at p)
sound-run s h at p sound l may =
    let v = s.view h in
    let x = name_at s p in
    let source : SourceRef = source_of s at in
    let a = and_parts _ _ may in
    let b = and_parts _ _ a.1 in
    let g : Next s v source p.block p.node = next_of s v source p.block p.node (place-node s p a.0) b.0 in
    cond_both (is_armed (phase_at s x)) (after_start s h p) (with_view s h (passed s source x v)) Sound
    (sound-start s h p source sound l g)
    (λ unarmed.
    sound-passing s h s.callback v.runs source g.i (index s x + 1)
    (passes-over s h source p.block p.node sound l g (eqb-true _ _ b.1) unarmed) sound)
