-- The state after a request, and its scans.
use Rattle.std.specs.Prelude.{◌⊎◌}
use Rattle.std.proofs.Common.{◌≡◌, ℕ, ◌<◌, ◌≤◌, Bool, true, false, ◌||◌, Option, Some, is_some, inl, inr, refl, sym, ap, ◌∙◌, subst, arith, not, ◌&&◌, if◌then◌else◌}
use Rattle.std.proofs.lemmas.Bool.{both_ways, false_from_ne_true}
use Rattle.life_rules.specs.declared.event.Name.{Name}
use Rattle.life_rules.specs.declared.event.SourceRef.{SourceRef}
use Rattle.life_rules.specs.declared.event.SourceRef.TheVariants.{Scope, Node}
use Rattle.life_rules.specs.declared.words.Bits.{Bits}
use Rattle.life_rules.specs.Views.{View, is_scanning, note, scan_at}
use Rattle.common_lemmas.specs.Sums.{one}
use Rattle.life_rules.specs.States.{State, bits_at, with_view}
use Rattle.common_lemmas.specs.Sums.{total}
use Rattle.life_rules.specs.StopSteps.{is_scope}
use Rattle.life_rules.specs.Callbacks.{nearest_is_requested}
use Rattle.life_rules.specs.Requests.{ScansStand, may_scan, IsScannable}
use Rattle.life_rules.specs.Sound.{Sound}
use Rattle.common_lemmas.proofs.Bool.{one-most, one-false}
use Rattle.common_lemmas.proofs.Totals.{total-zero}
use Rattle.life_rules.proofs.Readings.{total-with_view}
use Rattle.stop_kept.proofs.StopFrames.{related, related_at}
use Rattle.stop_kept.proofs.Standing.{begun}
use Rattle.stop_kept.proofs.Sources.{source_cases, scan_at-other, asked, has_begun, Reads, reads}

-- what the request rests on
pub record Grounds (s : State) (h : ℕ) (source : SourceRef) (failure : Bool) : Type 0 where
  pub begun : has_begun s source ≡ true
  pub within : (x : Name) → source ≡ Node x → (bits_at s source).requested ≡ false →
      1 ≤ may_scan s (s.view h) x
  pub cause : (x : Name) → source ≡ Node x →
      (((bits_at s source).failed || failure) || nearest_is_requested s x) ≡ true
  pub scope : source ≡ Scope → (bits_at s source).requested ≡ false → h ≡ 0

-- the word of a source on which the request stands
abbrev pub requested_word : State → SourceRef → Bool → Bits
requested_word s source failure =
    let bits = bits_at s source in record bits { requested = true; failed = bits.failed || failure }

-- the view of the hand that made the request, which is new or not
abbrev pub requester : State → ℕ → SourceRef → Bool → View
requester s h source new =
    let v = s.view h in
    record v {
      seen = note source true v.seen;
      scan = if new then scan_at source (Some 0) v.scan else v.scan;
      requested = v.requested || (new && is_scope source);
    }

abbrev pub after_asking : State → ℕ → SourceRef → Bool → Bool → State
after_asking s h source failure new =
    asked s source (requested_word s source failure) (with_view s h (requester s h source new)).view

pub reads-asking : (s : State) (h : ℕ) (source : SourceRef) (failure new : Bool) →
    has_begun s source ≡ true →
    Reads s (after_asking s h source failure new) source (requested_word s source failure)
reads-asking s h source failure new begun =
    reads s source (requested_word s source failure) (with_view s h (requester s h source new)).view begun

pub still-requested : (s t : State) (source : SourceRef) (failure : Bool) →
    Reads s t source (requested_word s source failure) →
    (a : SourceRef) → (bits_at s a).requested ≡ true → (bits_at t a).requested ≡ true
still-requested s t source failure r a e =
    source_cases a source
    (λ at. subst (λ b. (bits_at t b).requested ≡ true) (sym at) (ap (λ w. w.requested) r.here))
    (λ other. ap (λ w. w.requested) (r.there a other) ∙ e)

pub scanned-same : (s t : State) (source : SourceRef) (failure : Bool) →
    Reads s t source (requested_word s source failure) → (a : SourceRef) →
    (bits_at t a).scanned ≡ (bits_at s a).scanned
scanned-same s t source failure r a =
    source_cases a source
    (λ at. subst (λ b. (bits_at t b).scanned ≡ (bits_at s b).scanned) (sym at) (ap (λ w. w.scanned) r.here))
    (λ other. ap (λ w. w.scanned) (r.there a other))

-- the scans of a view, where a request that is new or not begins one
abbrev pub begins_scan : SourceRef → Bool → (SourceRef → Option ℕ) → SourceRef → Option ℕ
begins_scan source new f = if new then scan_at source (Some 0) f else f

scan-begun : (source : SourceRef) (new : Bool) (f : SourceRef → Option ℕ) (a : SourceRef) →
    is_some (begins_scan source new f a) ≡ true →
    (is_some (f a) ≡ true) ⊎ ((a ≡ source) × (new ≡ true))
scan-begun source false f a e = inl e
scan-begun source true f a e =
    source_cases a source (λ at. inr (at, refl))
    (λ other. inl (sym (ap is_some (scan_at-other source (Some 0) f a other)) ∙ e))

pub scanning-cases : (s : State) (h : ℕ) (source : SourceRef) (new : Bool) (i : ℕ) (a : SourceRef) →
    is_scanning ((with_view s h (requester s h source new)).view i) a ≡ true →
    (is_scanning (s.view i) a ≡ true) ⊎ ((i ≡ h) × (a ≡ source) × (new ≡ true))
scanning-cases s h source new i a =
    related_at s h (requester s h source new)
    (λ j u. is_scanning u a ≡ true → (is_scanning (s.view j) a ≡ true) ⊎ ((j ≡ h) × (a ≡ source) × (new ≡ true)))
    (λ e.
    elim (scan-begun source new (s.view h).scan a e) [
      | inl before ↦ inl before
      | inr now ↦ inr (refl, now.0, now.1)
    ])
    (λ j other e. inl e) i

-- at most one view scans a source, also where a scan begins
single-kept : (s : State) (h : ℕ) (source : SourceRef) (new : Bool) → ScansStand s → h < s.hands →
    (bits_at s source).requested ≡ not new → (a : SourceRef) →
    total (λ i. one (is_scanning ((with_view s h (requester s h source new)).view i) a)) s.hands ≤ 1
single-kept s h source false scans l known a =
    let same : (i : ℕ) →
    is_scanning ((with_view s h (requester s h source false)).view i) a ≡ is_scanning (s.view i) a =
    related s h (requester s h source false) (λ v u. is_scanning u a ≡ is_scanning v a) (λ _. refl) refl in
    let sums = ap (λ f. total f s.hands) (λ k i. one (same i k)) in
    let before = scans.single a in
    omega (arith, sums, before)
single-kept s h source true scans l known a =
    let u : View = requester s h source true in
    let moved = total-with_view s h u (λ v. one (is_scanning v a)) l in
    source_cases a source
    (λ at.
    let none : total (λ i. one (is_scanning (s.view i) a)) s.hands ≡ 0 =
    total-zero (λ i. one (is_scanning (s.view i) a)) s.hands
    (λ i below.
    one-false (false_from_ne_true _ (λ e.
    both_ways _ (subst (λ b. (bits_at s b).requested ≡ false) (sym at) known)
    (scans.cause i a below e).requested))) in
    let most = one-most (is_scanning u a) in
    omega (arith, moved, none, most))
    (λ other.
    let here : is_scanning u a ≡ is_scanning (s.view h) a =
    ap is_some (scan_at-other source (Some 0) (s.view h).scan a other) in
    let same = ap one here in
    let before = scans.single a in
    omega (arith, moved, same, before))

may_scan-same : (s : State) (h : ℕ) (source : SourceRef) (new : Bool) (i : ℕ) (y : Name) →
    may_scan s ((with_view s h (requester s h source new)).view i) y ≡ may_scan s (s.view i) y
may_scan-same s h source new i y =
    related s h (requester s h source new) (λ v u. may_scan s u y ≡ may_scan s v y) (λ _. refl) refl i

unscanned : (s : State) (source : SourceRef) → ScansStand s → (bits_at s source).requested ≡ false →
    (bits_at s source).scanned ≡ false
unscanned s source scans none = false_from_ne_true _ (λ e. both_ways _ none (scans.sealed source e))

pub scans-asking : (s : State) (h : ℕ) (source : SourceRef) (failure new : Bool) → Sound s →
    h < s.hands →
    Grounds s h source failure → (bits_at s source).requested ≡ not new →
    ScansStand (after_asking s h source failure new)
scans-asking s h source failure new sound l g known =
    let t : State = after_asking s h source failure new in
    let r : Reads s t source (requested_word s source failure) = reads-asking s h source failure new g.begun in
    let first : new ≡ true → (bits_at s source).requested ≡ false = λ e. known ∙ ap not e in
    record {
      single = single-kept s h source new sound.scans l known;
      cause = λ i a below e.
          elim (scanning-cases s h source new i a e) [
            | inl before ↦
                let was : IsScannable s a = sound.scans.cause i a below before in
                record {
                  requested = still-requested s t source failure r a was.requested;
                  unscanned = scanned-same s t source failure r a ∙ was.unscanned;
                }
            | inr now ↦
                subst (IsScannable t) (sym now.1) (record {
                  requested = ap (λ w. w.requested) r.here;
                  unscanned = scanned-same s t source failure r source
                      ∙ unscanned s source sound.scans (first now.2);
                })
          ];
      within = λ i y below e.
          let same = may_scan-same s h source new i y in
          elim (scanning-cases s h source new i (Node y) e) [
            | inl before ↦
                let was : 1 ≤ may_scan s (s.view i) y = sound.scans.within i y below before in
                subst (λ n. 1 ≤ n) (sym same) was
            | inr now ↦
                let may : 1 ≤ may_scan s (s.view i) y =
                subst (λ j. 1 ≤ may_scan s (s.view j) y) (sym now.0) (g.within y (sym now.1) (first now.2)) in
                subst (λ n. 1 ≤ n) (sym same) may
          ];
      sealed = λ a e.
          still-requested s t source failure r a
          (sound.scans.sealed a (sym (scanned-same s t source failure r a) ∙ e));
    }
