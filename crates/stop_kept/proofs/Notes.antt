-- What a step leaves alone that changes only callback words and what a view noted.
use Rattle.std.specs.Prelude.{◌⊎◌}
use Rattle.std.proofs.Common.{◌≡◌, ℕ, ◌<◌, ◌≤◌, Bool, true, false, ◌||◌, Some, inl, inr, refl, sym, ap, ◌∙◌, subst}
use Rattle.std.proofs.lemmas.Bool.{and_parts, or_cases, some_since}
use Rattle.life_rules.specs.declared.event.Name.{Name}
use Rattle.life_rules.specs.declared.event.SourceRef.{SourceRef}
use Rattle.life_rules.specs.declared.event.SourceRef.TheVariants.{Scope}
use Rattle.life_rules.specs.declared.words.CallbackPhase.{CallbackPhase}
use Rattle.life_rules.specs.Words.{is_never, is_armed, is_running, has_run}
use Rattle.life_rules.specs.Views.{View, is_scanning, note, same}
use Rattle.common_lemmas.specs.Sums.{one}
use Rattle.life_rules.specs.States.{State, phase_at, bits_at, nearest_of, with_view}
use Rattle.common_lemmas.specs.Sums.{total}
use Rattle.life_rules.specs.Scans.{index}
use Rattle.life_rules.specs.StopSteps.{passed}
use Rattle.life_rules.specs.Callbacks.{RunsAreScanned}
use Rattle.life_rules.specs.Requests.{ScansStand, WasPassed, IsNoted}
use Rattle.life_rules.specs.Associations.{ScopeRequested}
use Rattle.life_rules.specs.Sound.{Sound}
use Rattle.life_rules.proofs.Names.{same_source-true}
use Rattle.stop_kept.proofs.StopFrames.{changed, related, bare, SameRoles, owned-kept, counted-kept, associations-kept, next-frame}

-- the view without its notes
abbrev pub plain : View → View
plain v = record v { unlooked = λ _. false; seen_after = λ _. false; seen = λ _. false }

-- the same but for the notes
abbrev pub SameDoings : View → View → Type 0
SameDoings v u = plain v ≡ plain u

pub same_roles : (v u : View) → SameDoings v u → SameRoles v u
same_roles v u same = ap bare same

pub same_scan : (v u : View) → SameDoings v u → u.scan ≡ v.scan
same_scan v u same = ap (λ r. r.scan) (sym same)

pub same_runs : (v u : View) → SameDoings v u → u.runs ≡ v.runs
same_runs v u same = ap (λ r. r.runs) (sym same)

-- the view hasn't looked after the place yet, or has seen the request after arming it
abbrev pub is_noted : View → Name → Bool
is_noted v x = v.unlooked x || v.seen_after x

abbrev aside : State → (ℕ → View) → State
aside s w = record s { view = λ i. plain (w i) }

same_aside : (s : State) (w : ℕ → View) → ((i : ℕ) → SameDoings (s.view i) (w i)) →
    aside s s.view ≡ aside s w
same_aside s w same = λ k. record s { view = λ i. same i k }

pub runs-kept : (s : State) (c : ℕ → ℕ → CallbackPhase) (w : ℕ → View) → RunsAreScanned s →
    ((i : ℕ) → SameDoings (s.view i) (w i)) →
    ((y : Name) → is_running (phase_at (changed s c s.source s.scope_source w) y) ≡ is_running (phase_at s y)) →
    ((y : Name) → (is_running (phase_at (changed s c s.source s.scope_source w) y)
    || has_run (phase_at (changed s c s.source s.scope_source w) y)) ≡ true →
    (is_running (phase_at s y) || has_run (phase_at s y)) ≡ true) →
    RunsAreScanned (changed s c s.source s.scope_source w)
runs-kept s c w r same running ran =
    record {
      runs = λ x.
          ap (λ f. total f s.hands) (λ k i. same_runs (s.view i) (w i) (same i) k x)
          ∙ r.runs x ∙ ap one (sym (running x));
      next = λ h x l run.
          next-frame s c s.source s.scope_source w (s.view h) (w h) x
          (λ source at. ap (λ f. f source) (same_scan (s.view h) (w h) (same h)))
          ∙ r.next h x l (subst (λ f. 1 ≤ f x) (same_runs (s.view h) (w h) (same h)) run);
      cause = λ x e. r.cause x (ran x e);
    }

pub scans-kept : (s : State) (c : ℕ → ℕ → CallbackPhase) (w : ℕ → View) → ScansStand s →
    ((i : ℕ) → SameDoings (s.view i) (w i)) → ScansStand (changed s c s.source s.scope_source w)
scans-kept s c w a same =
    let b : ScansStand (aside s s.view) =
    record {
      single = a.single;
      cause = λ h source l e. let g = a.cause h source l e in
          record { requested = g.requested; unscanned = g.unscanned };
      within = a.within;
      sealed = a.sealed;
    } in
    let d : ScansStand (aside s w) = subst ScansStand (same_aside s w same) b in
    record {
      single = d.single;
      cause = λ h source l e. let g = d.cause h source l e in
          record { requested = g.requested; unscanned = g.unscanned };
      within = d.within;
      sealed = d.sealed;
    }

pub scope-kept : (s : State) (c : ℕ → ℕ → CallbackPhase) (w : ℕ → View) → ScopeRequested s →
    ((i : ℕ) → SameDoings (s.view i) (w i)) → ScopeRequested (changed s c s.source s.scope_source w)
scope-kept s c w a same =
    record {
      by_hand_0 = a.by_hand_0 ∙ ap (λ r. r.requested) (same 0);
      scan = λ h l e.
          a.scan h l (subst (λ v. is_scanning v Scope ≡ true) (sym (same h)) e);
    }

pub passed-kept : (s : State) (c : ℕ → ℕ → CallbackPhase) (w : ℕ → View) (source : SourceRef)
    (x : Name) →
    ((i : ℕ) → SameDoings (s.view i) (w i)) →
    WasPassed (changed s c s.source s.scope_source w) source x → WasPassed s source x
passed-kept s c w source x same passed =
    subst (λ t. WasPassed t source x) (sym (same_aside s w same)) passed

-- a source that was scanned, or whose scan has passed a place, is requested
pub passed-requested : (s : State) (source : SourceRef) (x : Name) → ScansStand s →
    WasPassed s source x →
    (bits_at s source).requested ≡ true
passed-requested s source x a passed =
    elim passed [
      | inl scanned ↦ a.sealed source scanned
      | inr by ↦
          (a.cause by.0 source by.1
          (some_since ((s.view by.0).scan source) ⊥ (λ i. index s x < i) by.2 (λ none. none))).requested
    ]

-- a step that only changes what views noted
pub sound-noted : (s : State) (w : ℕ → View) → Sound s → ((i : ℕ) → SameDoings (s.view i) (w i)) →
    ((i : ℕ) (source : SourceRef) → i < s.hands → (w i).seen source ≡ true →
    (bits_at s source).requested ≡ true) →
    ((i : ℕ) (x : Name) → i < s.hands → is_noted (w i) x ≡ true → is_never (phase_at s x) ≡ false) →
    ((x : Name) (source : SourceRef) → nearest_of s x ≡ Some source → is_armed (phase_at s x) ≡ true →
    WasPassed s source x → IsNoted (record s { view = w }) x) →
    Sound (record s { view = w })
sound-noted s w sound same seen noted missed =
    let c : ℕ → ℕ → CallbackPhase = s.callback in
    let roles : (i : ℕ) → SameRoles (s.view i) (w i) = λ i. same_roles (s.view i) (w i) (same i) in
    record {
      tree = sound.tree;
      hands = sound.hands;
      owned = owned-kept s c s.source s.scope_source w sound.owned roles (λ b n shut. refl) (λ b n shut. refl);
      counted = counted-kept s c s.source s.scope_source w sound.counted roles;
      begins = λ x idle. let fresh = sound.begins x idle in
          record { callback = fresh.callback; source = fresh.source; children = fresh.children };
      armed = sound.armed;
      runs = runs-kept s c w sound.runs same (λ x. refl) (λ x e. e);
      scans = scans-kept s c w sound.scans same;
      requests = record { cause = sound.requests.cause; seen = seen; noted = noted };
      missed = λ x source near armed passed.
          missed x source near armed (passed-kept s c w source x same passed);
      associations = associations-kept s c s.source s.scope_source w sound.associations roles;
      scope = scope-kept s c w sound.scope same;
    }

pub note-true : (source : SourceRef) (b : Bool) (f : SourceRef → Bool) (t : SourceRef) →
    note source b f t ≡ true →
    (f t ≡ true) ⊎ ((source ≡ t) × (b ≡ true))
note-true source b f t e =
    elim (or_cases _ _ e) [
      | inl before ↦ inl before
      | inr now ↦
          let parts = and_parts _ _ now in
          inr (same_source-true source t parts.0, parts.1)
    ]

-- a view sees a request more only where it read one
pub seen_cases : (s : State) (h : ℕ) (u : View) (source : SourceRef) (b : Bool) →
    u.seen ≡ note source b (s.view h).seen → (i : ℕ) (t : SourceRef) →
    ((with_view s h u).view i).seen t ≡ true →
    ((s.view i).seen t ≡ true) ⊎ ((source ≡ t) × (b ≡ true))
seen_cases s h u source b now i t e =
    let R : View → View → Type 0 = λ v w. w.seen t ≡ true → (v.seen t ≡ true) ⊎ ((source ≡ t) × (b ≡ true)) in
    related s h u R (λ v seen. inl seen)
    (λ seen. note-true source b (s.view h).seen t (ap (λ f. f t) (sym now) ∙ seen)) i e
