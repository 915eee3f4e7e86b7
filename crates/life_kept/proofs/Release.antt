-- The step release.
use Rattle.std.proofs.Common.{◌≡◌, ℕ, ◌<◌, ◌≤◌, Bool, true, false, not, ◌&&◌, ◌||◌, ◌==◌, inl, inr, refl, sym, ap, ◌∙◌, subst, arith}
use Rattle.std.proofs.lemmas.Bool.{and_parts, both_ways, eqb-true, false_from_ne_true, not-true, or_left}
use Rattle.life_rules.specs.declared.words.CallbackPhase.{CallbackPhase}
use Rattle.life_rules.specs.declared.words.CallbackPhase.TheVariants.{Never, Armed, Running, Ran, Removed}
use Rattle.life_rules.specs.declared.event.Name.{Name}
use Rattle.life_rules.specs.declared.event.SourceRef.{SourceRef}
use Rattle.life_rules.specs.declared.event.SourceRef.TheVariants.{Scope, Node}
use Rattle.node_tree.specs.Tree.{nearest}
use Rattle.life_rules.specs.Words.{is_under_way, is_armed, is_running, has_run, is_never}
use Rattle.common_lemmas.specs.Sums.{one}
use Rattle.life_rules.specs.Views.{is_scanning, is_in_block}
use Rattle.life_rules.specs.States.{State, phase_at, bits_at, stand}
use Rattle.life_rules.specs.Scans.{HasPassed}
use Rattle.life_rules.specs.LifeSteps.{may_release, after_release}
use Rattle.life_rules.specs.Callbacks.{ArmedLives, RunsAreScanned}
use Rattle.life_rules.specs.Requests.{ScansStand, RequestsFollow, NothingMissed, WasPassed, IsNoted, may_scan}
use Rattle.life_rules.specs.Sound.{Sound}
use Rattle.common_lemmas.proofs.Bool.{either}
use Rattle.common_lemmas.proofs.Totals.{total-same}
use Rattle.life_rules.proofs.Readings.{stand-at}
use Rattle.life_kept.proofs.ScopeFrames.{of_scope, associations-framed, scope-framed}
use Rattle.life_kept.proofs.Quiet.{MayRelease, release-needs, quiet-all}
use Rattle.life_kept.proofs.Released.{released, source-apart, control-other, phase-other, phase-gone, bits-other, bits-gone, views-kept, next_of-other, requested-other}
use Rattle.life_kept.proofs.ReleaseOwned.{runs-kept, release-owned, release-unused, release-counted, release-begins}

-- what is noted after the release was noted before, of another block
note-before : (u a q : Bool) → ((u && not q) || (a && not q)) ≡ true → (q ≡ false) × ((u || a) ≡ true)
note-before true a false e = (refl, refl)
note-before false true false e = (refl, refl)
note-before false false false e = cc
note-before true true true e = cc
note-before true false true e = cc
note-before false true true e = cc
note-before false false true e = cc

note-after : (u a q : Bool) → q ≡ false → (u || a) ≡ true → ((u && not q) || (a && not q)) ≡ true
note-after true a false apart e = refl
note-after false true false apart e = refl
note-after false false false apart e = cc
note-after u a true apart e = cc

armed-some : (p : CallbackPhase) → (is_armed p || is_running p) ≡ true → is_never p ≡ false
armed-some Never on = cc
armed-some Armed on = refl
armed-some Running on = refl
armed-some Ran on = refl
armed-some Removed on = refl

armed-alone : (p : CallbackPhase) → is_armed p ≡ true → is_never p ≡ false
armed-alone p on = armed-some p (or_left (is_armed p) (is_running p) on)

ran-some : (p : CallbackPhase) → (is_running p || has_run p) ≡ true → is_never p ≡ false
ran-some Never on = cc
ran-some Armed on = refl
ran-some Running on = refl
ran-some Ran on = refl
ran-some Removed on = refl

module _ (s : State) (h b : ℕ) (needs : MayRelease s h b) where
  abbrev t : State
  t = released s h b

  -- a place whose callback was registered is of another block
  phase-apart : (x : Name) → is_never (phase_at t x) ≡ false → (x.block == b) ≡ false
  phase-apart x some =
      false_from_ne_true (x.block == b)
      (λ at. both_ways (is_never (phase_at t x)) some (ap is_never (phase-gone s h b x at)))

  -- and so is one that reads as registered
  phase-kept : (x : Name) → is_never (phase_at t x) ≡ false → phase_at t x ≡ phase_at s x
  phase-kept x some = phase-other s h b x (phase-apart x some)

  -- a requested source isn't of the block
  request-apart : (source : SourceRef) → (bits_at t source).requested ≡ true → is_in_block b source ≡ false
  request-apart source asked =
      false_from_ne_true (is_in_block b source)
      (λ at. both_ways ((bits_at t source).requested) (λ k. (bits-gone s h b source at k).requested) asked)

  -- nor is a scanned one, or one that a view scans
  sealed-apart : (source : SourceRef) → (bits_at t source).scanned ≡ true → is_in_block b source ≡ false
  sealed-apart source scanned =
      false_from_ne_true (is_in_block b source)
      (λ at. both_ways ((bits_at t source).scanned) (λ k. (bits-gone s h b source at k).scanned) scanned)

  scan-apart : (i : ℕ) (source : SourceRef) → i < s.hands → is_scanning (s.view i) source ≡ true →
      is_in_block b source ≡ false
  scan-apart i Scope below on = refl
  scan-apart i (Node x) below on =
      false_from_ne_true (x.block == b)
      (λ at. both_ways (is_scanning (s.view i) (Node x))
      ((quiet-all s h b needs x (eqb-true x.block b at)).scans i below) on)

  release-armed : ArmedLives t
  release-armed x on =
      let same = phase-kept x (armed-some (phase_at t x) on) in
      let apart = phase-apart x (armed-some (phase_at t x) on) in
      ap is_under_way (control-other s h b x apart)
      ∙ needs.sound.armed x ((λ k. is_armed (sym same k) || is_running (sym same k)) ∙ on)

  release-runs : RunsAreScanned t
  release-runs = record {
    runs = λ x.
        either (x.block == b)
        (λ at.
        let quiet = quiet-all s h b needs x (eqb-true x.block b at) in
        runs-kept s h b needs x ∙ quiet.runs ∙ (λ k. one (is_running (sym (phase-gone s h b x at) k))))
        (λ apart. runs-kept s h b needs x ∙ needs.sound.runs.runs x
        ∙ (λ k. one (is_running (sym (phase-other s h b x apart) k))));
    next = λ i x below run.
        let before : 1 ≤ (s.view i).runs x = subst (λ n. 1 ≤ n) (λ k. (views-kept s h b i k).runs x) run in
        let apart : (x.block == b) ≡ false =
        false_from_ne_true (x.block == b) (λ at.
        let quiet = quiet-all s h b needs x (eqb-true x.block b at) in
        let none : stand s (λ v. v.runs) x ≡ 0 = quiet.runs in
        let all : (s.view i).runs x ≤ stand s (λ v. v.runs) x = stand-at s (λ v. v.runs) i x below in
        omega (arith, none, all, before)) in
        next_of-other s h b i x apart ∙ needs.sound.runs.next i x below before;
    cause = λ x ran.
        let some = ran-some (phase_at t x) ran in
        let same = phase-kept x some in
        requested-other s h b x (phase-apart x some)
        ∙ needs.sound.runs.cause x ((λ k. is_running (sym same k) || has_run (sym same k)) ∙ ran);
  }

  scanning-kept : (i : ℕ) (source : SourceRef) → is_scanning (t.view i) source ≡ is_scanning (s.view i) source
  scanning-kept i source = λ k. is_scanning (views-kept s h b i k) source

  release-scans : ScansStand t
  release-scans = record {
    single = λ source.
        subst (λ n. n ≤ 1)
        (sym (total-same _ _ s.hands (λ i below k. one (scanning-kept i source k))))
        (needs.sound.scans.single source);
    cause = λ i source below on.
        let was = sym (scanning-kept i source) ∙ on in
        let same = bits-other s h b source (scan-apart i source below was) in
        let old = needs.sound.scans.cause i source below was in
        record {
          requested = (λ k. (same k).requested) ∙ old.requested;
          unscanned = (λ k. (same k).scanned) ∙ old.unscanned;
        };
    within = λ i x below on.
        subst (λ n. 1 ≤ n)
        (λ k. may_scan s (sym (views-kept s h b i) k) x)
        (needs.sound.scans.within i x below (sym (scanning-kept i (Node x)) ∙ on));
    sealed = λ source scanned.
        let same = bits-other s h b source (sealed-apart source scanned) in
        (λ k. (same k).requested)
        ∙ needs.sound.scans.sealed source ((λ k. (sym same k).scanned) ∙ scanned);
  }

  release-requests : RequestsFollow t
  release-requests = record {
    cause = λ x asked.
        let apart = request-apart (Node x) asked in
        let same = bits-other s h b (Node x) apart in
        (λ k. (same k).failed || requested-other s h b x apart k)
        ∙ needs.sound.requests.cause x ((λ k. (sym same k).requested) ∙ asked);
    seen = λ i source below saw.
        let parts = and_parts ((s.view i).seen source) (not (is_in_block b source))
        ((λ k. (sym (views-kept s h b i) k).seen source) ∙ saw) in
        (λ k. (bits-other s h b source (not-true (is_in_block b source) parts.1) k).requested)
        ∙ needs.sound.requests.seen i source below parts.0;
    noted = λ i x below note.
        let parts = note-before ((s.view i).unlooked x) ((s.view i).seen_after x) (x.block == b)
        ((λ k. (sym (views-kept s h b i) k).unlooked x || (sym (views-kept s h b i) k).seen_after x) ∙ note) in
        ap is_never (phase-other s h b x parts.0) ∙ needs.sound.requests.noted i x below parts.1;
  }

  passed-before : (source : SourceRef) (x : Name) → WasPassed t source x → is_in_block b source ≡ false →
      WasPassed s source x
  passed-before source x (inl scanned) apart = inl ((λ k. (sym (bits-other s h b source apart) k).scanned) ∙ scanned)
  passed-before source x (inr at) apart =
      inr (at.0, at.1, subst (λ v. HasPassed s v source x) (views-kept s h b at.0) at.2)

  release-missed : NothingMissed t
  release-missed x source near armed passed =
      let some = armed-alone (phase_at t x) armed in
      let apart = phase-apart x some in
      let away = source-apart b x (nearest s.tree x.node) source near apart in
      let at : IsNoted s x =
      needs.sound.missed x source near (ap is_armed (sym (phase-kept x some)) ∙ armed) (passed-before source x passed away) in (
        at.0,
        at.1,
        (λ k. (views-kept s h b at.0 k).unlooked x || (views-kept s h b at.0 k).seen_after x)
            ∙ note-after ((s.view at.0).unlooked x) ((s.view at.0).seen_after x) (x.block == b) apart at.2,
      )

  release-sound : Sound t
  release-sound =
      let same : (i : ℕ) → of_scope (t.view i) ≡ of_scope (s.view i) = λ i k. of_scope (views-kept s h b i k) in
      record {
        tree = needs.sound.tree;
        hands = needs.sound.hands;
        owned = record { names = release-owned s h b needs; unused = release-unused s h b needs };
        counted = release-counted s h b needs;
        begins = release-begins s h b needs;
        armed = release-armed;
        runs = release-runs;
        scans = release-scans;
        requests = release-requests;
        missed = release-missed;
        associations = associations-framed s t.block t.control t.callback t.source t.view same needs.sound.associations;
        scope = scope-framed s t.block t.control t.callback t.source t.view same needs.sound.scope;
      }

pub sound-release : (s : State) (h b : ℕ) → Sound s → h < s.hands → may_release s h b ≡ true →
    Sound (after_release s h b)
sound-release s h b sound below may = release-sound s h b (release-needs s h b sound below may)
