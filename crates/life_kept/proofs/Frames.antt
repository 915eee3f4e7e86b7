-- What carries over where a step changes control words and what views know of the lives of nodes.
use Rattle.std.proofs.Common.{◌≡◌, ℕ, ◌-◌, ◌/◌, ◌%◌, ◌<◌, ◌≤◌, true, false, ◌&&◌, ◌||◌, nat_le, inl, inr, sym, ◌∙◌, subst, arith}
use Rattle.std.specs.Option.{option_map_or}
use Rattle.life_rules.specs.declared.words.BlockWord.{BlockWord}
use Rattle.life_rules.specs.declared.words.ControlWord.{ControlWord}
use Rattle.life_rules.specs.declared.event.Name.{Name}
use Rattle.life_rules.specs.declared.event.SourceRef.{SourceRef}
use Rattle.life_rules.specs.declared.event.SourceRef.TheVariants.{Node}
use Rattle.life_rules.specs.Words.{is_armed, is_running, has_run, is_never}
use Rattle.life_rules.specs.Views.{View, is_scanning}
use Rattle.common_lemmas.specs.Sums.{one}
use Rattle.life_rules.specs.States.{State, size, phase_at, bits_at, nearest_of, stand}
use Rattle.common_lemmas.specs.Sums.{total}
use Rattle.life_rules.specs.Scans.{is_nearest, place_at, index, is_next, is_next_in, HasPassed}
use Rattle.life_rules.specs.Callbacks.{RunsAreScanned, is_next_of_nearest, nearest_is_requested}
use Rattle.life_rules.specs.Requests.{ScansStand, RequestsFollow, NothingMissed, IsNoted, WasPassed, may_scan}
use Rattle.common_lemmas.proofs.Totals.{total-same}
use Rattle.life_rules.proofs.ScanOrder.{has_none-frame}

-- the view without what it knows of the lives of nodes
abbrev pub rest : View → View
rest v = record v { holds = λ _. 0; starts = λ _. 0; reports = λ _. 0; finished = λ _. 0 }

-- the state with other words of blocks, other control words and other views
abbrev pub over : State → (ℕ → BlockWord) → (ℕ → ℕ → ControlWord) → (ℕ → View) → State
over s b c w = record s { block = b; control = c; view = w }

-- callbacks, sources and generations read the same, and the views differ in the lives of nodes alone
pub record IsFramed (s : State) (b : ℕ → BlockWord) (c : ℕ → ℕ → ControlWord) (w : ℕ → View) : Type 0 where
  pub phase : (x : Name) → phase_at (over s b c w) x ≡ phase_at s x
  pub bits : (source : SourceRef) → bits_at (over s b c w) source ≡ bits_at s source
  pub generation : (i : ℕ) → (b i).generation ≡ (s.block i).generation
  pub views : (i : ℕ) → rest (w i) ≡ rest (s.view i)

module _ (s : State) (b : ℕ → BlockWord) (c : ℕ → ℕ → ControlWord) (w : ℕ → View) (same : IsFramed s b c w) where
  next-same : (source : SourceRef) (i : ℕ) (x : Name) →
      is_next (over s b c w) source i x ≡ is_next s source i x
  next-same source i x =
      let place : (j : ℕ) → is_nearest s source (place_at (over s b c w) j) ≡ is_nearest s source (place_at s j) =
      λ j k. is_nearest s source (record { block = j / size s; generation = same.generation (j / size s) k; node = j % size s }) in
      let none = has_none-frame s (over s b c w) source i (index s x - i) place in
      λ k. is_nearest s source x && (nat_le i (index s x) && none k)

  next_in-same : (h : ℕ) (source : SourceRef) (x : Name) →
      is_next_in (over s b c w) (w h) source x ≡ is_next_in s (s.view h) source x
  next_in-same h source x =
      λ k. option_map_or (λ i. next-same source i x k) ((same.views h k).scan source) false

  next_of-same : (h : ℕ) (x : Name) →
      is_next_of_nearest (over s b c w) (w h) x ≡ is_next_of_nearest s (s.view h) x
  next_of-same h x = λ k. option_map_or (λ source. next_in-same h source x k) (nearest_of s x) false

  requested-same : (x : Name) → nearest_is_requested (over s b c w) x ≡ nearest_is_requested s x
  requested-same x = λ k. option_map_or (λ source. (same.bits source k).requested) (nearest_of s x) false

  pub runs-framed : RunsAreScanned s → RunsAreScanned (over s b c w)
  runs-framed r = record {
    runs = λ x.
        let sums : stand (over s b c w) (λ v. v.runs) x ≡ stand s (λ v. v.runs) x =
        total-same _ _ s.hands (λ i below k. (same.views i k).runs x) in
        sums ∙ r.runs x ∙ (λ k. one (is_running (sym (same.phase x) k)));
    next = λ h x below run.
        next_of-same h x ∙ r.next h x below (subst (λ n. 1 ≤ n) (λ k. (same.views h k).runs x) run);
    cause = λ x ran.
        requested-same x
        ∙ r.cause x ((λ k. is_running (sym (same.phase x) k) || has_run (sym (same.phase x) k)) ∙ ran);
  }

  pub requests-framed : RequestsFollow s → RequestsFollow (over s b c w)
  requests-framed r = record {
    cause = λ x asked.
        (λ k. (same.bits (Node x) k).failed || requested-same x k)
        ∙ r.cause x ((λ k. (sym (same.bits (Node x)) k).requested) ∙ asked);
    seen = λ h source below saw.
        (λ k. (same.bits source k).requested)
        ∙ r.seen h source below ((λ k. (sym (same.views h) k).seen source) ∙ saw);
    noted = λ h x below note.
        (λ k. is_never (same.phase x k))
        ∙ r.noted h x below
        ((λ k. (sym (same.views h) k).unlooked x || (sym (same.views h) k).seen_after x) ∙ note);
  }

  passed-same : (source : SourceRef) (x : Name) → WasPassed (over s b c w) source x → WasPassed s source x
  passed-same source x (inl scanned) = inl ((λ k. (sym (same.bits source) k).scanned) ∙ scanned)
  passed-same source x (inr at) =
      inr (at.0, at.1, subst (λ v. HasPassed s v source x) (same.views at.0) at.2)

  pub missed-framed : NothingMissed s → NothingMissed (over s b c w)
  missed-framed m x source near armed passed =
      let at : IsNoted s x =
      m x source near ((λ k. is_armed (sym (same.phase x) k)) ∙ armed) (passed-same source x passed) in
      (at.0, at.1, (λ k. (same.views at.0 k).unlooked x || (same.views at.0 k).seen_after x) ∙ at.2)

  -- what a view knows of the lives of nodes may change so that each of its scans of a node still may stand
  pub scans-framed : ScansStand s →
      ((h : ℕ) (x : Name) → h < s.hands → is_scanning (s.view h) (Node x) ≡ true →
      may_scan s (s.view h) x ≤ may_scan s (w h) x) →
      ScansStand (over s b c w)
  scans-framed a more =
      let scanning : (h : ℕ) (source : SourceRef) → is_scanning (w h) source ≡ is_scanning (s.view h) source =
      λ h source k. is_scanning (same.views h k) source in
      record {
        single = λ source.
            let sums : total (λ h. one (is_scanning (w h) source)) s.hands
            ≡ total (λ h. one (is_scanning (s.view h) source)) s.hands =
            total-same _ _ s.hands (λ i below k. one (scanning i source k)) in
            subst (λ n. n ≤ 1) (sym sums) (a.single source);
        cause = λ h source below on.
            let old = a.cause h source below (sym (scanning h source) ∙ on) in
            record {
              requested = (λ k. (same.bits source k).requested) ∙ old.requested;
              unscanned = (λ k. (same.bits source k).scanned) ∙ old.unscanned;
            };
        within = λ h x below on.
            let was : is_scanning (s.view h) (Node x) ≡ true = sym (scanning h (Node x)) ∙ on in
            let old : 1 ≤ may_scan s (s.view h) x = a.within h x below was in
            let new : may_scan s (s.view h) x ≤ may_scan s (w h) x = more h x below was in
            omega (arith, old, new);
        sealed = λ source scanned.
            (λ k. (same.bits source k).requested)
            ∙ a.sealed source ((λ k. (sym (same.bits source) k).scanned) ∙ scanned);
      }
