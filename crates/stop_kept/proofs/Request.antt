-- A request keeps what is sound, on whatever ground it is made.
use Rattle.std.specs.Prelude.{MatchOption}
use Rattle.std.proofs.Common.{◌≡◌, ℕ, ◌<◌, ◌≤◌, Bool, true, false, ◌||◌, Option, Some, inl, inr, refl, sym, ap, ◌∙◌, subst, arith, not, ◌&&◌}
use Rattle.std.proofs.lemmas.Bool.{and_parts, or_cases, both_ways, or_left, or_right, cond_both}
use Rattle.std.proofs.Math.Bool.{or-false, not-not}
use Rattle.life_rules.specs.declared.event.Name.{Name}
use Rattle.life_rules.specs.declared.event.SourceAt.{SourceAt}
use Rattle.life_rules.specs.declared.event.SourceAt.TheVariants.{Scope as AtScope, At}
use Rattle.life_rules.specs.declared.event.SourceRef.{SourceRef}
use Rattle.life_rules.specs.declared.event.SourceRef.TheVariants.{Scope, Node}
use Rattle.life_rules.specs.declared.words.Bits.{Bits}
use Rattle.life_rules.specs.Words.{is_running}
use Rattle.life_rules.specs.Views.{View, same_source}
use Rattle.life_rules.specs.States.{State, phase_at, bits_at, nearest_of, with_view, name_at}
use Rattle.life_rules.specs.Scans.{index, HasPassed}
use Rattle.life_rules.specs.StopSteps.{passed, may_request, is_scope, after_request}
use Rattle.life_rules.specs.Callbacks.{is_next_of_nearest, nearest_is_requested}
use Rattle.life_rules.specs.Requests.{WasPassed}
use Rattle.life_rules.specs.Associations.{ScopeRequested}
use Rattle.life_rules.specs.Sound.{Sound}
use Rattle.stop_kept.proofs.StopFrames.{related, view-here, SameRoles, next-frame}
use Rattle.stop_kept.proofs.Standing.{begun, runs-running}
use Rattle.stop_kept.proofs.Notes.{is_noted, seen_cases}
use Rattle.stop_kept.proofs.Sources.{source_cases, scan_at-other, words_with, scope_with, has_begun, Reads, requested-more, sound-source, requested_of}
use Rattle.stop_kept.proofs.Asking.{Grounds, requested_word, requester, after_asking, reads-asking, still-requested, scanned-same, begins_scan, scanning-cases, scans-asking}
use Rattle.stop_kept.proofs.Grounds.{scope-grounds, first-grounds, repeat-grounds}

cause-kept : (s : State) (h : ℕ) (source : SourceRef) (failure new : Bool) → Sound s →
    Grounds s h source failure → (y : Name) →
    (bits_at (after_asking s h source failure new) (Node y)).requested ≡ true →
    ((bits_at (after_asking s h source failure new) (Node y)).failed
    || nearest_is_requested (after_asking s h source failure new) y) ≡ true
cause-kept s h source failure new sound g y e =
    let t : State = after_asking s h source failure new in
    let r : Reads s t source (requested_word s source failure) = reads-asking s h source failure new g.begun in
    let near : nearest_is_requested s y ≡ true → nearest_is_requested t y ≡ true =
    requested-more s t (nearest_of s y) (still-requested s t source failure r) in
    source_cases (Node y) source
    (λ at.
    elim (or_cases _ _ (g.cause y (sym at))) [
      | inl failed ↦
          or_left _ _ (ap (λ a. (bits_at t a).failed) at ∙ ap (λ w. w.failed) r.here ∙ failed)
      | inr requested ↦ or_right _ _ (near requested)
    ])
    (λ other.
    let same : bits_at t (Node y) ≡ bits_at s (Node y) = r.there (Node y) other in
    elim (or_cases _ _ (sound.requests.cause y (sym (ap (λ w. w.requested) same) ∙ e))) [
      | inl failed ↦ or_left _ _ (ap (λ w. w.failed) same ∙ failed)
      | inr requested ↦ or_right _ _ (near requested)
    ])

scan-unless : (source : SourceRef) (new : Bool) (f : SourceRef → Option ℕ) (a : SourceRef) →
    (new ≡ true → a ≡ source → ⊥) → begins_scan source new f a ≡ f a
scan-unless source false f a apart = refl
scan-unless source true f a apart = scan_at-other source (Some 0) f a (apart refl)

-- a scan that begins has passed nothing
passed-before : (source : SourceRef) (new : Bool) (f : SourceRef → Option ℕ) (a : SourceRef)
    (P : ℕ → Type 0) →
    (P 0 → ⊥) → MatchOption (begins_scan source new f a) ⊥ P → MatchOption (f a) ⊥ P
passed-before source false f a P none p = p
passed-before source true f a P none passed =
    cond_both (same_source source a) (Some 0) (f a) (λ o. MatchOption o ⊥ P → MatchOption (f a) ⊥ P)
    (λ at p. absurd (none p)) (λ other p. p) passed

-- a view made the scope's request only where the step made it
requested-same : (s : State) (h : ℕ) (source : SourceRef) (new : Bool) →
    (new && is_scope source) ≡ false →
    (i : ℕ) → ((with_view s h (requester s h source new)).view i).requested ≡ (s.view i).requested
requested-same s h source new none i =
    related s h (requester s h source new) (λ v u. u.requested ≡ v.requested) (λ _. refl)
    (ap (λ b. (s.view h).requested || b) none ∙ or-false (s.view h).requested) i

by_hand_0-kept : (s : State) (h : ℕ) (source : SourceRef) (failure new : Bool) → ScopeRequested s →
    Grounds s h source failure → (bits_at s source).requested ≡ not new →
    (scope_with s source (requested_word s source failure)).requested
    ≡ ((with_view s h (requester s h source new)).view 0).requested
by_hand_0-kept s h Scope failure true scope g known =
    let u : View = requester s h Scope true in
    let here : ((with_view s h u).view h).requested ≡ true =
    ap (λ v. v.requested) (view-here s h u) ∙ or_right (s.view h).requested true refl in
    sym (subst (λ j. ((with_view s h u).view j).requested ≡ true) (g.scope refl known) here)
by_hand_0-kept s h Scope failure false scope g known =
    sym known ∙ scope.by_hand_0 ∙ sym (requested-same s h Scope false refl 0)
by_hand_0-kept s h (Node x) failure true scope g known =
    scope.by_hand_0 ∙ sym (requested-same s h (Node x) true refl 0)
by_hand_0-kept s h (Node x) failure false scope g known =
    scope.by_hand_0 ∙ sym (requested-same s h (Node x) false refl 0)

scope-asking : (s : State) (h : ℕ) (source : SourceRef) (failure new : Bool) → ScopeRequested s →
    Grounds s h source failure → (bits_at s source).requested ≡ not new →
    ScopeRequested (after_asking s h source failure new)
scope-asking s h source failure new scope g known =
    record {
      by_hand_0 = by_hand_0-kept s h source failure new scope g known;
      scan = λ i below e.
          elim (scanning-cases s h source new i Scope e) [
            | inl before ↦ scope.scan i below before
            | inr now ↦ now.0 ∙ g.scope (sym now.1) (known ∙ ap not now.2)
          ];
    }

passed-asking : (s : State) (h : ℕ) (source : SourceRef) (failure new : Bool) →
    has_begun s source ≡ true →
    (y : Name) (a : SourceRef) → WasPassed (after_asking s h source failure new) a y →
    WasPassed s a y
passed-asking s h source failure new begun y a was =
    let t : State = after_asking s h source failure new in
    let r : Reads s t source (requested_word s source failure) = reads-asking s h source failure new begun in
    elim was [
      | inl scanned ↦ inl (sym (scanned-same s t source failure r a) ∙ scanned)
      | inr by ↦
          let before : HasPassed s (s.view by.0) a y =
          related s h (requester s h source new) (λ v u. HasPassed s u a y → HasPassed s v a y) (λ _ p. p)
          (passed-before source new (s.view h).scan a (λ i. index s y < i) (λ none. omega (arith, none)))
          by.0 by.2 in
          inr (by.0, by.1, before)
    ]

next-asking : (s : State) (h : ℕ) (source : SourceRef) (failure new : Bool) → Sound s →
    h < s.hands →
    (bits_at s source).requested ≡ not new → (i : ℕ) (y : Name) → i < s.hands →
    1 ≤ ((with_view s h (requester s h source new)).view i).runs y →
    is_next_of_nearest (after_asking s h source failure new)
    ((with_view s h (requester s h source new)).view i) y ≡ true
next-asking s h source failure new sound l known i y below =
    let u : View = requester s h source new in
    let w : ℕ → View = (with_view s h u).view in
    let t : State = after_asking s h source failure new in
    let q = words_with s source (requested_word s source failure) in
    let z : Bits = scope_with s source (requested_word s source failure) in
    related s h u
    (λ v a. (1 ≤ v.runs y → is_next_of_nearest s v y ≡ true) → 1 ≤ a.runs y →
    is_next_of_nearest t a y ≡ true)
    (λ v f run. next-frame s s.callback q z w v v y (λ a near. refl) ∙ f run)
    (λ f run.
    let running : is_running (phase_at s y) ≡ true = runs-running s h y sound.runs l run in
    let requested : nearest_is_requested s y ≡ true = sound.runs.cause y (or_left _ _ running) in
    next-frame s s.callback q z w (s.view h) u y
    (λ a near. scan-unless source new (s.view h).scan a
    (λ first at.
    both_ways _ (known ∙ ap not first)
    (subst (λ b. (bits_at s b).requested ≡ true) at (requested_of s y a near requested))))
    ∙ f run)
    i (sound.runs.next i y below)

pub sound-asking : (s : State) (h : ℕ) (source : SourceRef) (failure new : Bool) → Sound s →
    h < s.hands →
    Grounds s h source failure → (bits_at s source).requested ≡ not new →
    Sound (after_asking s h source failure new)
sound-asking s h source failure new sound l g known =
    let u : View = requester s h source new in
    let w : ℕ → View = (with_view s h u).view in
    let t : State = after_asking s h source failure new in
    let r : Reads s t source (requested_word s source failure) = reads-asking s h source failure new g.begun in
    sound-source s source (requested_word s source failure) w sound g.begun
    (related s h u SameRoles (λ _. refl) refl)
    (related s h u (λ v a. v.runs ≡ a.runs) (λ _. refl) refl)
    (λ i y. related s h u (λ v a. is_noted v y ≡ is_noted a y) (λ _. refl) refl i)
    (still-requested s t source failure r)
    (next-asking s h source failure new sound l known)
    (scans-asking s h source failure new sound l g known)
    (cause-kept s h source failure new sound g)
    (λ i a below e.
    elim (seen_cases s h u source true refl i a e) [
      | inl before ↦ still-requested s t source failure r a (sound.requests.seen i a below before)
      | inr now ↦
          subst (λ b. (bits_at t b).requested ≡ true) now.0 (ap (λ w. w.requested) r.here)
    ])
    (λ y a near armed was. passed-asking s h source failure new g.begun y a was)
    (scope-asking s h source failure new sound.scope g known)

pub sound-request : (s : State) (h : ℕ) (at : SourceAt) (failure : Bool) → Sound s → h < s.hands →
    may_request s h at failure ≡ true → Sound (after_request s h at failure)
sound-request s h AtScope failure sound l may =
    sound-asking s h Scope failure (not (bits_at s Scope).requested) sound l
    (scope-grounds s h failure sound l may) (sym (not-not _))
sound-request s h (At p) failure sound l may =
    let x = name_at s p in
    let a = and_parts _ _ may in
    let g : Grounds s h (Node x) failure =
    elim (or_cases _ _ a.1) [
      | inl first ↦ first-grounds s h x failure sound l first
      | inr again ↦
          let b = and_parts _ _ again in
          let d = and_parts _ _ b.1 in
          repeat-grounds s h x failure sound l d.0
    ] in
    sound-asking s h (Node x) failure (not (bits_at s (Node x)).requested) sound l g (sym (not-not _))
