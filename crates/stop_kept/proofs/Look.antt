-- A look at a source keeps what is sound.
use Rattle.std.proofs.Common.{◌≡◌, ℕ, ◌<◌, true, false, ◌||◌, Option, Some, None, inl, inr, refl, sym, ap, ◌∙◌, subst}
use Rattle.std.proofs.lemmas.Bool.{and_parts, or_left, or_right, cond-false, cond-true}
use Rattle.std.proofs.lemmas.Option.{same_Some}
use Rattle.life_rules.specs.declared.event.Name.{Name}
use Rattle.life_rules.specs.declared.event.Place.{Place}
use Rattle.life_rules.specs.declared.event.SourceAt.{SourceAt}
use Rattle.life_rules.specs.declared.event.SourceRef.{SourceRef}
use Rattle.life_rules.specs.Words.{is_never}
use Rattle.life_rules.specs.Views.{View, note, same, mark}
use Rattle.life_rules.specs.States.{State, phase_at, bits_at, nearest_of, with_view, name_at}
use Rattle.life_rules.specs.StopSteps.{source_of, may_look, after_look}
use Rattle.life_rules.specs.Requests.{IsNoted, RequestsFollow}
use Rattle.life_rules.specs.Sound.{Sound}
use Rattle.life_rules.proofs.Names.{same-refl, same-other, by_name}
use Rattle.stop_kept.proofs.StopFrames.{related, view-here}
use Rattle.stop_kept.proofs.Notes.{SameDoings, is_noted, passed-requested, sound-noted, seen_cases}
use Rattle.stop_kept.proofs.ScanAt.{for_nearest}

seen-note : (s : State) (h : ℕ) (u : View) (source : SourceRef) → RequestsFollow s →
    u.seen ≡ note source (bits_at s source).requested (s.view h).seen →
    (i : ℕ) (t : SourceRef) → i < s.hands → ((with_view s h u).view i).seen t ≡ true →
    (bits_at s t).requested ≡ true
seen-note s h u source r now i t below e =
    elim (seen_cases s h u source (bits_at s source).requested now i t e) [
      | inl before ↦ r.seen i t below before
      | inr at ↦ subst (λ a. (bits_at s a).requested ≡ true) at.0 at.1
    ]

-- the view of a hand that looked, after it armed x
abbrev looked_view : State → ℕ → SourceRef → Name → View
looked_view s h source x =
    let v = s.view h in
    let read = (bits_at s source).requested in
    record v {
      seen = note source read v.seen;
      unlooked = mark x false v.unlooked;
      seen_after = mark x (v.seen_after x || read) v.seen_after;
    }

noted-other : (s : State) (h : ℕ) (source : SourceRef) (x y : Name) → (y ≡ x → ⊥) → (i : ℕ) →
    is_noted ((with_view s h (looked_view s h source x)).view i) y ≡ is_noted (s.view i) y
noted-other s h source x y other i =
    let v = s.view h in
    let apart : same x y ≡ false = same-other x y (λ at. other (sym at)) in
    related s h (looked_view s h source x) (λ v u. is_noted u y ≡ is_noted v y) (λ _. refl)
    (ap (λ b. b || mark x (v.seen_after x || (bits_at s source).requested) v.seen_after y)
    (cond-false (same x y) false (v.unlooked y) apart)
    ∙ ap (λ b. v.unlooked y || b) (cond-false (same x y) _ (v.seen_after y) apart)) i

noted-here : (s : State) (h : ℕ) (source : SourceRef) (x : Name) →
    (bits_at s source).requested ≡ true →
    is_noted ((with_view s h (looked_view s h source x)).view h) x ≡ true
noted-here s h source x read =
    let v = s.view h in
    ap (λ u. is_noted u x) (view-here s h (looked_view s h source x))
    ∙ or_right (mark x false v.unlooked x) _
    (cond-true (same x x) _ (v.seen_after x) (same-refl x) ∙ or_right (v.seen_after x) _ read)

pub sound-look : (s : State) (h : ℕ) (at : SourceAt) (after : Option Place) → Sound s →
    h < s.hands →
    may_look s h at after ≡ true → Sound (after_look s h at after)
sound-look s h at None sound l may =
    let source : SourceRef = source_of s at in
    let v = s.view h in
    let u : View = record v { seen = note source (bits_at s source).requested v.seen } in
    let w : ℕ → View = (with_view s h u).view in
    let noted : (x : Name) (i : ℕ) → is_noted (w i) x ≡ is_noted (s.view i) x = λ x.
    related s h u (λ v u. is_noted u x ≡ is_noted v x) (λ _. refl) refl in
    sound-noted s w sound (related s h u SameDoings (λ _. refl) refl)
    (seen-note s h u source sound.requests refl)
    (λ i x below e. sound.requests.noted i x below (sym (noted x i) ∙ e))
    (λ x t near armed passed.
    let n : IsNoted s x = sound.missed x t near armed passed in
    (n.0, n.1, noted x n.0 ∙ n.2))
sound-look s h at (Some p) sound l may =
    let source : SourceRef = source_of s at in
    let x = name_at s p in
    let a = and_parts _ _ may in
    let b = and_parts _ _ a.1 in
    let u : View = looked_view s h source x in
    let w : ℕ → View = (with_view s h u).view in
    let nearest : nearest_of s x ≡ Some source = for_nearest source (nearest_of s x) b.1 in
    sound-noted s w sound (related s h u SameDoings (λ _. refl) refl)
    (seen-note s h u source sound.requests refl)
    (λ i y below e.
    by_name y x
    (λ at. subst (λ z. is_never (phase_at s z) ≡ false) (sym at)
    (sound.requests.noted h x l (or_left _ _ b.0)))
    (λ other. sound.requests.noted i y below (sym (noted-other s h source x y other i) ∙ e)))
    (λ y t near armed passed.
    by_name y x
    (λ at.
    let here : Some t ≡ Some source = sym near ∙ ap (nearest_of s) at ∙ nearest in
    let requested : (bits_at s source).requested ≡ true =
    subst (λ r. (bits_at s r).requested ≡ true) (same_Some t source here)
    (passed-requested s t y sound.scans passed) in
    let n : IsNoted (record s { view = w }) x = (h, l, noted-here s h source x requested) in
    subst (IsNoted (record s { view = w })) (sym at) n)
    (λ other.
    let n : IsNoted s y = sound.missed y t near armed passed in
    (n.0, n.1, noted-other s h source x y other n.0 ∙ n.2)))
