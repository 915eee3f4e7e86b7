-- A withdrawal by the hand that holds the node keeps what is sound.
use Rattle.std.specs.Option.{option_map_or}
use Rattle.std.specs.Prelude.{◌⊎◌}
use Rattle.std.proofs.Common.{◌≡◌, ℕ, ◌<◌, ◌≤◌, Bool, true, ◌||◌, Option, Some, None, inl, inr, refl, sym, ap, ◌∙◌, subst}
use Rattle.std.proofs.lemmas.Bool.{and_parts, or_cases, both_ways, leb-true, cond_both}
use Rattle.life_rules.specs.declared.event.Name.{Name}
use Rattle.life_rules.specs.declared.event.Place.{Place}
use Rattle.life_rules.specs.declared.event.SourceRef.{SourceRef}
use Rattle.life_rules.specs.declared.words.CallbackPhase.{CallbackPhase}
use Rattle.life_rules.specs.declared.words.CallbackPhase.TheVariants.{Removed, Armed}
use Rattle.life_rules.specs.Words.{is_never, is_armed, is_running, has_run}
use Rattle.life_rules.specs.Views.{View, note}
use Rattle.life_rules.specs.States.{State, phase_at, nearest_of, with_view, name_at, with_callback, set_at}
use Rattle.life_rules.specs.StopSteps.{may_withdraw, after_withdraw}
use Rattle.life_rules.specs.Requests.{IsNoted}
use Rattle.life_rules.specs.Sound.{Sound}
use Rattle.stop_kept.proofs.StopFrames.{changed, related, owned-kept, associations-kept}
use Rattle.stop_kept.proofs.Standing.{holds-under_way}
use Rattle.life_rules.proofs.Names.{by_name}
use Rattle.stop_kept.proofs.Phases.{Writes, writes, set_at-shut, begins-written, armed-written, tests_alike, armed-is}
use Rattle.stop_kept.proofs.Notes.{SameDoings, is_noted, runs-kept, scans-kept, scope-kept, sound-noted, note-true}
use Rattle.stop_kept.proofs.Sources.{requested_of}

-- an armed callback is removed
sound-remove : (s : State) (h : ℕ) (p : Place) → Sound s → h < s.hands →
    1 ≤ (s.view h).holds (name_at s p) →
    is_armed (phase_at s (name_at s p)) ≡ true → Sound (with_callback s p.block p.node Removed)
sound-remove s h p sound l holds armed =
    let x = name_at s p in
    let w : ℕ → View = s.view in
    let c : ℕ → ℕ → CallbackPhase = set_at s.callback p.block p.node Removed in
    let t : State = changed s c s.source s.scope_source w in
    let wrote : Writes s t x Removed = writes s p Removed w (holds-under_way s h x sound.owned l holds) in
    let was : phase_at s x ≡ Armed = armed-is (phase_at s x) armed in
    record {
      tree = sound.tree;
      hands = sound.hands;
      owned = owned-kept s c s.source s.scope_source w sound.owned (λ i. refl)
          (set_at-shut s s.callback x Removed wrote.live) (λ b n shut. refl);
      counted = sound.counted;
      begins = begins-written s c w x Removed sound.begins wrote;
      armed = armed-written s c w x Removed sound.armed wrote;
      runs = runs-kept s c w sound.runs (λ i. refl) (tests_alike s t x Armed Removed is_running wrote was refl)
          (λ y e.
          sym (tests_alike s t x Armed Removed (λ f. is_running f || has_run f) wrote was refl y) ∙ e);
      scans = scans-kept s c w sound.scans (λ i. refl);
      requests = record {
        cause = sound.requests.cause;
        seen = sound.requests.seen;
        noted = λ i y below e.
            tests_alike s t x Armed Removed is_never wrote was refl y ∙ sound.requests.noted i y below e;
      };
      missed = λ y source near armed passed.
          by_name y x
          (λ at.
          absurd (both_ways _ (ap is_armed wrote.here)
          (subst (λ z. is_armed (phase_at t z) ≡ true) at armed)))
          (λ other.
          sound.missed y source near (subst (λ f. is_armed f ≡ true) (wrote.there y other) armed)
          passed);
      associations = associations-kept s c s.source s.scope_source w sound.associations (λ i. refl);
      scope = scope-kept s c w sound.scope (λ i. refl);
    }

-- what the view has seen, where it learns of the request on this source
abbrev learned : Option SourceRef → (SourceRef → Bool) → SourceRef → Bool
learned o f = option_map_or (λ source. note source true f) o f

learned-true : (o : Option SourceRef) (f : SourceRef → Bool) (t : SourceRef) →
    learned o f t ≡ true →
    (f t ≡ true) ⊎ (o ≡ Some t)
learned-true None f t e = inl e
learned-true (Some source) f t e =
    elim (note-true source true f t e) [
      | inl before ↦ inl before
      | inr now ↦ inr (ap Some now.0)
    ]

-- one that runs or ran tells that its source is requested
sound-learn : (s : State) (h : ℕ) (x : Name) → Sound s →
    (is_running (phase_at s x) || has_run (phase_at s x)) ≡ true →
    Sound (with_view s h (record (s.view h) { seen = learned (nearest_of s x) (s.view h).seen }))
sound-learn s h x sound ran =
    let v = s.view h in
    let u : View = record v { seen = learned (nearest_of s x) v.seen } in
    let w : ℕ → View = (with_view s h u).view in
    let noted : (y : Name) (i : ℕ) → is_noted (w i) y ≡ is_noted (s.view i) y = λ y.
    related s h u (λ v u. is_noted u y ≡ is_noted v y) (λ _. refl) refl in
    sound-noted s w sound (related s h u SameDoings (λ _. refl) refl)
    (λ i t below e.
    let was : (((s.view i).seen t ≡ true) ⊎ (nearest_of s x ≡ Some t)) =
    related s h u (λ v w. w.seen t ≡ true → (v.seen t ≡ true) ⊎ (nearest_of s x ≡ Some t))
    (λ v seen. inl seen) (learned-true (nearest_of s x) v.seen t) i e in
    elim was [
      | inl before ↦ sound.requests.seen i t below before
      | inr near ↦ requested_of s x t near (sound.runs.cause x ran)
    ])
    (λ i y below e. sound.requests.noted i y below (sym (noted y i) ∙ e))
    (λ y t near armed passed.
    let n : IsNoted s y = sound.missed y t near armed passed in
    (n.0, n.1, noted y n.0 ∙ n.2))

pub sound-withdraw : (s : State) (h : ℕ) (p : Place) → Sound s → h < s.hands →
    may_withdraw s h p ≡ true →
    Sound (after_withdraw s h p)
sound-withdraw s h p sound l may =
    let x = name_at s p in
    let v = s.view h in
    let a = and_parts _ _ may in
    let b = and_parts _ _ a.1 in
    let d = and_parts _ _ b.1 in
    let holds : 1 ≤ v.holds x = leb-true _ _ b.0 in
    let learns : State = with_view s h (record v { seen = learned (nearest_of s x) v.seen }) in
    cond_both (is_armed (phase_at s x)) (with_callback s p.block p.node Removed) learns Sound
    (sound-remove s h p sound l holds)
    (λ not_armed.
    elim (or_cases _ _ d.1) [
      | inl armed ↦ absurd (both_ways _ not_armed armed)
      | inr ran ↦ sound-learn s h x sound ran
    ])
