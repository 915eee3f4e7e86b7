-- Arming a callback keeps what is sound.
use Rattle.std.proofs.Common.{◌≡◌, ℕ, ◌<◌, ◌≤◌, true, false, ◌||◌, refl, sym, ap, ◌∙◌, subst}
use Rattle.std.proofs.lemmas.Bool.{and_parts, or_left, leb-true, cond-false, cond-true}
use Rattle.life_rules.specs.declared.event.Name.{Name}
use Rattle.life_rules.specs.declared.event.Place.{Place}
use Rattle.life_rules.specs.declared.words.CallbackPhase.{CallbackPhase}
use Rattle.life_rules.specs.declared.words.CallbackPhase.TheVariants.{Never, Armed}
use Rattle.life_rules.specs.Words.{is_never, is_armed, is_running, has_run}
use Rattle.life_rules.specs.Views.{View, same, mark}
use Rattle.life_rules.specs.States.{State, phase_at, with_view, name_at, set_at}
use Rattle.life_rules.specs.StopSteps.{may_arm, after_arm}
use Rattle.life_rules.specs.Requests.{IsNoted}
use Rattle.life_rules.specs.Sound.{Sound}
use Rattle.life_rules.proofs.Names.{same-refl, same-other, by_name}
use Rattle.stop_kept.proofs.StopFrames.{changed, related, view-here, SameRoles, owned-kept, counted-kept, associations-kept}
use Rattle.stop_kept.proofs.Standing.{holds-under_way}
use Rattle.stop_kept.proofs.Phases.{Writes, writes, set_at-shut, begins-written, armed-written, tests_alike, never-is}
use Rattle.stop_kept.proofs.Notes.{SameDoings, same_roles, is_noted, runs-kept, scans-kept, scope-kept, passed-kept}

-- the view of the hand that armed x
abbrev armed_view : State → ℕ → Name → View
armed_view s h x = let v = s.view h in record v { unlooked = mark x true v.unlooked }

-- what is noted of another place stays as it was
noted-other : (s : State) (h : ℕ) (x y : Name) → (y ≡ x → ⊥) → (i : ℕ) →
    is_noted ((with_view s h (armed_view s h x)).view i) y ≡ is_noted (s.view i) y
noted-other s h x y other i =
    let f = (s.view h).unlooked in
    let kept : mark x true f y ≡ f y =
    cond-false (same x y) true (f y) (same-other x y (λ at. other (sym at))) in
    related s h (armed_view s h x) (λ v u. is_noted u y ≡ is_noted v y) (λ _. refl)
    (ap (λ b. b || (s.view h).seen_after y) kept) i

noted-here : (s : State) (h : ℕ) (x : Name) →
    is_noted ((with_view s h (armed_view s h x)).view h) x ≡ true
noted-here s h x =
    let f = (s.view h).unlooked in
    ap (λ v. is_noted v x) (view-here s h (armed_view s h x))
    ∙ or_left (mark x true f x) ((s.view h).seen_after x) (cond-true (same x x) true (f x) (same-refl x))

pub sound-arm : (s : State) (h : ℕ) (p : Place) → Sound s → h < s.hands → may_arm s h p ≡ true →
    Sound (after_arm s h p)
sound-arm s h p sound l may =
    let x = name_at s p in
    let a = and_parts _ _ may in
    let b = and_parts _ _ a.1 in
    let d = and_parts _ _ b.1 in
    let holds : 1 ≤ (s.view h).holds x = leb-true _ _ b.0 in
    let w : ℕ → View = (with_view s h (armed_view s h x)).view in
    let c : ℕ → ℕ → CallbackPhase = set_at s.callback p.block p.node Armed in
    let t : State = changed s c s.source s.scope_source w in
    let wrote : Writes s t x Armed = writes s p Armed w (holds-under_way s h x sound.owned l holds) in
    let same : (i : ℕ) → SameDoings (s.view i) (w i) =
    related s h (armed_view s h x) SameDoings (λ _. refl) refl in
    let roles : (i : ℕ) → SameRoles (s.view i) (w i) = λ i. same_roles (s.view i) (w i) (same i) in
    let seen : (i : ℕ) → (s.view i).seen ≡ (w i).seen =
    related s h (armed_view s h x) (λ v u. v.seen ≡ u.seen) (λ _. refl) refl in
    let never : phase_at s x ≡ Never = never-is (phase_at s x) d.0 in
    record {
      tree = sound.tree;
      hands = sound.hands;
      owned = owned-kept s c s.source s.scope_source w sound.owned roles
          (set_at-shut s s.callback x Armed wrote.live) (λ b n shut. refl);
      counted = counted-kept s c s.source s.scope_source w sound.counted roles;
      begins = begins-written s c w x Armed sound.begins wrote;
      armed = armed-written s c w x Armed sound.armed wrote;
      runs = runs-kept s c w sound.runs same (tests_alike s t x Never Armed is_running wrote never refl)
          (λ y e.
          sym (tests_alike s t x Never Armed (λ f. is_running f || has_run f) wrote never refl y) ∙ e);
      scans = scans-kept s c w sound.scans same;
      requests = record {
        cause = sound.requests.cause;
        seen = λ i source below e. sound.requests.seen i source below (ap (λ f. f source) (seen i) ∙ e);
        noted = λ i y below e.
            by_name y x
            (λ at. subst (λ z. is_never (phase_at t z) ≡ false) (sym at) (ap is_never wrote.here))
            (λ other.
            ap is_never (wrote.there y other)
            ∙ sound.requests.noted i y below (sym (noted-other s h x y other i) ∙ e));
      };
      missed = λ y source near armed passed.
          by_name y x
          (λ at. subst (IsNoted t) (sym at) (h, l, noted-here s h x))
          (λ other.
          let n : IsNoted s y =
          sound.missed y source near
          (subst (λ f. is_armed f ≡ true) (wrote.there y other) armed)
          (passed-kept s c w source y same passed) in
          (n.0, n.1, noted-other s h x y other n.0 ∙ n.2));
      associations = associations-kept s c s.source s.scope_source w sound.associations roles;
      scope = scope-kept s c w sound.scope same;
    }
