-- The end of a scan keeps what is sound.
use Rattle.std.specs.Option.{option_map_or}
use Rattle.std.specs.Prelude.{MatchOption}
use Rattle.std.proofs.Common.{◌≡◌, ℕ, ◌<◌, ◌≤◌, true, false, Some, None, is_some, inl, inr, refl, sym, ap, ◌∙◌, subst, arith, le_of_eq}
use Rattle.std.proofs.lemmas.Bool.{and_parts, or_cases, both_ways, or_left, or_right, cond_both}
use Rattle.life_rules.specs.declared.event.Name.{Name}
use Rattle.life_rules.specs.declared.event.SourceAt.{SourceAt}
use Rattle.life_rules.specs.declared.event.SourceAt.TheVariants.{Scope as AtScope, At}
use Rattle.life_rules.specs.declared.event.SourceRef.{SourceRef}
use Rattle.life_rules.specs.declared.event.SourceRef.TheVariants.{Scope, Node}
use Rattle.life_rules.specs.declared.words.Bits.{Bits}
use Rattle.life_rules.specs.Words.{is_armed}
use Rattle.life_rules.specs.Views.{View, is_scanning, scan_at, same_source}
use Rattle.common_lemmas.specs.Sums.{one}
use Rattle.life_rules.specs.States.{State, phase_at, bits_at, nearest_of, with_view, name_at, is_live}
use Rattle.common_lemmas.specs.Sums.{total}
use Rattle.life_rules.specs.Scans.{index, HasPassed, is_nearest, is_past_all}
use Rattle.life_rules.specs.StopSteps.{may_seal_scan, after_seal_scan}
use Rattle.life_rules.specs.Callbacks.{is_next_of_nearest}
use Rattle.life_rules.specs.Requests.{ScansStand, WasPassed, may_scan, IsScannable}
use Rattle.life_rules.specs.Associations.{ScopeRequested}
use Rattle.life_rules.specs.Sound.{Sound}
use Rattle.common_lemmas.proofs.Bool.{one-true}
use Rattle.common_lemmas.proofs.Totals.{total-most, total-single}
use Rattle.common_lemmas.proofs.Options.{map_or-some}
use Rattle.life_rules.proofs.ScanOrder.{past_all-behind}
use Rattle.stop_kept.proofs.StopFrames.{related, related_at, SameRoles, next-frame}
use Rattle.stop_kept.proofs.Standing.{runs-running}
use Rattle.stop_kept.proofs.Notes.{is_noted}
use Rattle.stop_kept.proofs.Sources.{source_cases, scan_at-here, scan_at-other, words_with, scope_with, asked, has_begun, Reads, reads, requested-begun, requested-more, sound-source}
use Rattle.stop_kept.proofs.ScanAt.{armed-live, running-live, nearest-for, next-at, next-from, passed-from}

-- the hand's scan of the source stands at i, and no place of the source is left from there on
record Finishes (s : State) (h : ℕ) (source : SourceRef) : Type 0 where
  i : ℕ
  at : (s.view h).scan source ≡ Some i
  past : is_past_all s source i ≡ true
  begun : has_begun s source ≡ true
  requested : (bits_at s source).requested ≡ true

finishes : (s : State) (h : ℕ) (source : SourceRef) → Sound s → h < s.hands →
    option_map_or (λ i. is_past_all s source i) ((s.view h).scan source) false ≡ true →
    Finishes s h source
finishes s h source sound l may =
    let at = map_or-some (λ i. is_past_all s source i) ((s.view h).scan source) may in
    let requested : (bits_at s source).requested ≡ true =
    (sound.scans.cause h source l (ap is_some at.1)).requested in
    record {
      i = at.0;
      at = at.1;
      past = at.2;
      requested = requested;
      begun = requested-begun s source sound requested;
    }

abbrev sealed_word : State → SourceRef → Bits
sealed_word s source = record (bits_at s source) { scanned = true }

-- the view of the hand whose scan is over
abbrev sealer : State → ℕ → SourceRef → View
sealer s h source = let v = s.view h in record v { scan = scan_at source None v.scan }

abbrev after_sealing : State → ℕ → SourceRef → State
after_sealing s h source = asked s source (sealed_word s source) (with_view s h (sealer s h source)).view

requested-same : (s t : State) (source : SourceRef) → Reads s t source (sealed_word s source) →
    (a : SourceRef) →
    (bits_at t a).requested ≡ (bits_at s a).requested
requested-same s t source r a =
    source_cases a source
    (λ at. subst (λ b. (bits_at t b).requested ≡ (bits_at s b).requested) (sym at) (ap (λ w. w.requested) r.here))
    (λ other. ap (λ w. w.requested) (r.there a other))

failed-same : (s t : State) (source : SourceRef) → Reads s t source (sealed_word s source) →
    (a : SourceRef) →
    (bits_at t a).failed ≡ (bits_at s a).failed
failed-same s t source r a =
    source_cases a source
    (λ at. subst (λ b. (bits_at t b).failed ≡ (bits_at s b).failed) (sym at) (ap (λ w. w.failed) r.here))
    (λ other. ap (λ w. w.failed) (r.there a other))

-- who still scans scanned before, and isn't the hand whose scan of the source is over
scanning-still : (s : State) (h : ℕ) (source : SourceRef) (i : ℕ) (a : SourceRef) →
    is_scanning ((with_view s h (sealer s h source)).view i) a ≡ true →
    (is_scanning (s.view i) a ≡ true) × (a ≡ source → i ≡ h → ⊥)
scanning-still s h source i a =
    let f = (s.view h).scan in
    related_at s h (sealer s h source)
    (λ j u. is_scanning u a ≡ true → (is_scanning (s.view j) a ≡ true) × (a ≡ source → j ≡ h → ⊥))
    (λ e.
    source_cases a source
    (λ at.
    let none : is_some (scan_at source None f a) ≡ false =
    ap (λ b. is_some (scan_at source None f b)) at ∙ ap is_some (scan_at-here source None f) in
    absurd (both_ways _ none e))
    (λ other.
    (sym (ap is_some (scan_at-other source None f a other)) ∙ e, λ at here. other at)))
    (λ j other e. (e, λ at here. other here)) i

single-kept : (s : State) (h : ℕ) (source : SourceRef) → ScansStand s → (a : SourceRef) →
    total (λ i. one (is_scanning ((with_view s h (sealer s h source)).view i) a)) s.hands ≤ 1
single-kept s h source scans a =
    let f = (s.view h).scan in
    let less = total-most
    (λ i. one (is_scanning ((with_view s h (sealer s h source)).view i) a))
    (λ i. one (is_scanning (s.view i) a)) s.hands
    (λ i below.
    related s h (sealer s h source) (λ v u. one (is_scanning u a) ≤ one (is_scanning v a))
    (λ v. omega arith)
    (cond_both (same_source source a) None (f a) (λ o. one (is_some o) ≤ one (is_some (f a)))
    (λ at. omega arith) (λ other. omega arith)) i) in
    let before = scans.single a in
    omega (arith, less, before)

scans-sealing : (s : State) (h : ℕ) (source : SourceRef) → Sound s → h < s.hands →
    Finishes s h source →
    ScansStand (after_sealing s h source)
scans-sealing s h source sound l g =
    let w : ℕ → View = (with_view s h (sealer s h source)).view in
    let t : State = after_sealing s h source in
    let r : Reads s t source (sealed_word s source) = reads s source (sealed_word s source) w g.begun in
    record {
      single = single-kept s h source sound.scans;
      cause = λ i a below e.
          let still = scanning-still s h source i a e in
          source_cases a source
          (λ at.
          let both : i ≡ h =
          total-single (λ j. one (is_scanning (s.view j) source)) s.hands i h (sound.scans.single source)
          below l
          (le_of_eq (sym (one-true (subst (λ b. is_scanning (s.view i) b ≡ true) at still.0))))
          (le_of_eq (sym (one-true (ap is_some g.at)))) in
          absurd (still.1 at both))
          (λ other.
          let was : IsScannable s a = sound.scans.cause i a below still.0 in
          let same : bits_at t a ≡ bits_at s a = r.there a other in
          record {
            requested = ap (λ b. b.requested) same ∙ was.requested;
            unscanned = ap (λ b. b.scanned) same ∙ was.unscanned;
          });
      within = λ i y below e.
          let still = scanning-still s h source i (Node y) e in
          let same : may_scan s (s.view i) y ≡ may_scan s (w i) y =
          related s h (sealer s h source) (λ v u. may_scan s v y ≡ may_scan s u y) (λ _. refl) refl i in
          subst (λ n. 1 ≤ n) same (sound.scans.within i y below still.0);
      sealed = λ a e.
          requested-same s t source r a
          ∙ source_cases a source
          (λ at. subst (λ b. (bits_at s b).requested ≡ true) (sym at) g.requested)
          (λ other. sound.scans.sealed a (sym (ap (λ b. b.scanned) (r.there a other)) ∙ e));
    }

by_hand_0-kept : (s : State) (h : ℕ) (source : SourceRef) → ScopeRequested s →
    (scope_with s source (sealed_word s source)).requested
    ≡ ((with_view s h (sealer s h source)).view 0).requested
by_hand_0-kept s h Scope scope =
    scope.by_hand_0 ∙ related s h (sealer s h Scope) (λ v u. v.requested ≡ u.requested) (λ _. refl) refl 0
by_hand_0-kept s h (Node x) scope =
    scope.by_hand_0 ∙ related s h (sealer s h (Node x)) (λ v u. v.requested ≡ u.requested) (λ _. refl) refl 0

-- the scan that is over had passed each armed place of the source
passed-sealing : (s : State) (h : ℕ) (source : SourceRef) → h < s.hands → Finishes s h source →
    (y : Name) (a : SourceRef) →
    nearest_of s y ≡ Some a → is_armed (phase_at s y) ≡ true →
    WasPassed (after_sealing s h source) a y →
    WasPassed s a y
passed-sealing s h source l g y a near armed was =
    let w : ℕ → View = (with_view s h (sealer s h source)).view in
    let t : State = after_sealing s h source in
    let r : Reads s t source (sealed_word s source) = reads s source (sealed_word s source) w g.begun in
    elim was [
      | inl scanned ↦
          source_cases a source
          (λ at.
          let for_y : is_nearest s source y ≡ true = nearest-for s y source (near ∙ ap Some at) in
          let behind : index s y < g.i =
          past_all-behind s source g.i y g.past (armed-live s y armed) for_y in
          let passed : HasPassed s (s.view h) a y =
          passed-from s (s.view h) a y g.i (ap (s.view h).scan at ∙ g.at) behind in
          inr (h, l, passed))
          (λ other. inl (sym (ap (λ b. b.scanned) (r.there a other)) ∙ scanned))
      | inr by ↦
          let f = (s.view h).scan in
          let P : ℕ → Type 0 = λ i. index s y < i in
          let before : HasPassed s (s.view by.0) a y =
          related s h (sealer s h source) (λ v u. HasPassed s u a y → HasPassed s v a y) (λ _ p. p)
          (cond_both (same_source source a) None (f a) (λ o. MatchOption o ⊥ P → MatchOption (f a) ⊥ P)
          (λ at p. absurd p) (λ other p. p))
          by.0 by.2 in
          inr (by.0, by.1, before)
    ]

-- a place that the hand runs is another source's
next-sealing : (s : State) (h : ℕ) (source : SourceRef) → Sound s → h < s.hands →
    Finishes s h source →
    (i : ℕ) (y : Name) → i < s.hands → 1 ≤ ((with_view s h (sealer s h source)).view i).runs y →
    is_next_of_nearest (after_sealing s h source)
    ((with_view s h (sealer s h source)).view i) y ≡ true
next-sealing s h source sound l g i y below =
    let v = s.view h in
    let u : View = sealer s h source in
    let w : ℕ → View = (with_view s h u).view in
    let t : State = after_sealing s h source in
    let q = words_with s source (sealed_word s source) in
    let z : Bits = scope_with s source (sealed_word s source) in
    related s h u
    (λ v a. (1 ≤ v.runs y → is_next_of_nearest s v y ≡ true) → 1 ≤ a.runs y →
    is_next_of_nearest t a y ≡ true)
    (λ v f run. next-frame s s.callback q z w v v y (λ a near. refl) ∙ f run)
    (λ f run.
    let live : is_live s y ≡ true = running-live s y (runs-running s h y sound.runs l run) in
    next-frame s s.callback q z w v u y
    (λ a near.
    scan_at-other source None v.scan a (λ at.
    let here : nearest_of s y ≡ Some source = near ∙ ap Some at in
    let from : g.i ≤ index s y =
    next-from s source g.i y (next-at s v source y g.i here g.at (f run)) in
    let behind : index s y < g.i =
    past_all-behind s source g.i y g.past live (nearest-for s y source here) in
    absurd (omega (arith, from, behind))))
    ∙ f run)
    i (sound.runs.next i y below)

sound-sealing : (s : State) (h : ℕ) (source : SourceRef) → Sound s → h < s.hands →
    Finishes s h source →
    Sound (after_sealing s h source)
sound-sealing s h source sound l g =
    let u : View = sealer s h source in
    let w : ℕ → View = (with_view s h u).view in
    let t : State = after_sealing s h source in
    let r : Reads s t source (sealed_word s source) = reads s source (sealed_word s source) w g.begun in
    let more : (a : SourceRef) → (bits_at s a).requested ≡ true → (bits_at t a).requested ≡ true =
    λ a e. requested-same s t source r a ∙ e in
    sound-source s source (sealed_word s source) w sound g.begun
    (related s h u SameRoles (λ _. refl) refl)
    (related s h u (λ v a. v.runs ≡ a.runs) (λ _. refl) refl)
    (λ i y. related s h u (λ v a. is_noted v y ≡ is_noted a y) (λ _. refl) refl i)
    more
    (next-sealing s h source sound l g)
    (scans-sealing s h source sound l g)
    (λ y e.
    elim (or_cases _ _ (sound.requests.cause y (sym (requested-same s t source r (Node y)) ∙ e))) [
      | inl failed ↦ or_left _ _ (failed-same s t source r (Node y) ∙ failed)
      | inr near ↦ or_right _ _ (requested-more s t (nearest_of s y) more near)
    ])
    (λ i a below e.
    let seen : (s.view i).seen a ≡ (w i).seen a =
    related s h u (λ v b. v.seen a ≡ b.seen a) (λ _. refl) refl i in
    more a (sound.requests.seen i a below (seen ∙ e)))
    (passed-sealing s h source l g)
    (record {
      by_hand_0 = by_hand_0-kept s h source sound.scope;
      scan = λ i below e. sound.scope.scan i below (scanning-still s h source i Scope e).0;
    })

pub sound-seal_scan : (s : State) (h : ℕ) (at : SourceAt) → Sound s → h < s.hands →
    may_seal_scan s h at ≡ true →
    Sound (after_seal_scan s h at)
sound-seal_scan s h AtScope sound l may = sound-sealing s h Scope sound l (finishes s h Scope sound l may)
sound-seal_scan s h (At p) sound l may =
    let a = and_parts _ _ may in
    sound-sealing s h (Node (name_at s p)) sound l (finishes s h (Node (name_at s p)) sound l a.1)
