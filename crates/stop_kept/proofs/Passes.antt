-- A step by which a scan goes on keeps what is sound.
use Rattle.std.specs.Prelude.{MatchOption}
use Rattle.std.proofs.Common.{◌≡◌, ℕ, ◌<◌, ◌≤◌, true, false, ◌||◌, Some, is_some, inl, inr, refl, sym, ap, ◌∙◌, subst, arith}
use Rattle.life_rules.specs.declared.event.Name.{Name}
use Rattle.life_rules.specs.declared.event.SourceRef.{SourceRef}
use Rattle.life_rules.specs.declared.event.SourceRef.TheVariants.{Scope, Node}
use Rattle.life_rules.specs.declared.words.CallbackPhase.{CallbackPhase}
use Rattle.life_rules.specs.Words.{is_never, is_armed, is_running, has_run, is_open}
use Rattle.life_rules.specs.Views.{View, is_scanning, scan_at}
use Rattle.common_lemmas.specs.Sums.{one}
use Rattle.life_rules.specs.States.{State, phase_at, nearest_of, with_view, stand}
use Rattle.common_lemmas.specs.Sums.{total}
use Rattle.life_rules.specs.Scans.{index, HasPassed}
use Rattle.life_rules.specs.Callbacks.{BeginsInOrder, ArmedLives, is_next_of_nearest}
use Rattle.life_rules.specs.Requests.{ScansStand, WasPassed, may_scan}
use Rattle.life_rules.specs.Sound.{Sound}
use Rattle.stop_kept.proofs.StopFrames.{changed, related, SameRoles, owned-kept, counted-kept, associations-kept, next-frame}
use Rattle.stop_kept.proofs.Notes.{is_noted}
use Rattle.stop_kept.proofs.Sources.{source_cases, scan_at-here, scan_at-other}
use Rattle.stop_kept.proofs.ScanAt.{passed-from, passed-to}

-- the view whose scan of the source goes on from number j, and that runs these places
abbrev pub passer : View → (Name → ℕ) → SourceRef → ℕ → View
passer v r source j = record v { runs = r; scan = scan_at source (Some j) v.scan }

abbrev pub after_passing : State → ℕ → (ℕ → ℕ → CallbackPhase) → (Name → ℕ) → SourceRef → ℕ → State
after_passing s h c r source j =
    changed s c s.source s.scope_source (with_view s h (passer (s.view h) r source j)).view

-- what such a step rests on, where the scan stood at i
pub record Passes (s : State) (h : ℕ) (c : ℕ → ℕ → CallbackPhase) (r : Name → ℕ)
    (source : SourceRef) (i j : ℕ) : Type 0 where
  pub at : (s.view h).scan source ≡ Some i
  pub shut : (b n : ℕ) → is_open (s.block b).state ≡ false → c b n ≡ s.callback b n
  pub begins : BeginsInOrder (after_passing s h c r source j)
  pub armed : ArmedLives (after_passing s h c r source j)
  pub runs : (y : Name) → stand (after_passing s h c r source j) (λ v. v.runs) y
      ≡ one (is_running (phase_at (after_passing s h c r source j) y))
  -- the places that the view runs now are another source's, and it ran them before
  pub others : (y : Name) → 1 ≤ r y → (1 ≤ (s.view h).runs y) × (nearest_of s y ≡ Some source → ⊥)
  pub ran : (y : Name) →
      (is_running (phase_at (after_passing s h c r source j) y)
      || has_run (phase_at (after_passing s h c r source j) y)) ≡ true →
      (is_running (phase_at s y) || has_run (phase_at s y)) ≡ true
  pub within : (y : Name) → is_scanning (s.view h) (Node y) ≡ true → r y ≡ (s.view h).runs y
  pub never : (y : Name) → is_never (phase_at s y) ≡ false →
      is_never (phase_at (after_passing s h c r source j) y) ≡ false
  -- an armed place of the source that lies behind now lay behind before
  pub still : (y : Name) → is_armed (phase_at (after_passing s h c r source j) y) ≡ true →
      (is_armed (phase_at s y) ≡ true)
      × (nearest_of s y ≡ Some source → index s y < j → index s y < i)

scanning-same : (s : State) (h : ℕ) (c : ℕ → ℕ → CallbackPhase) (r : Name → ℕ) (source : SourceRef)
    (i j : ℕ) →
    Passes s h c r source i j → (k : ℕ) (a : SourceRef) →
    is_scanning ((after_passing s h c r source j).view k) a ≡ is_scanning (s.view k) a
scanning-same s h c r source i j p k a =
    let f = (s.view h).scan in
    related s h (passer (s.view h) r source j) (λ v u. is_scanning u a ≡ is_scanning v a) (λ _. refl)
    (source_cases a source
    (λ at.
    ap (λ b. is_some (scan_at source (Some j) f b)) at
    ∙ ap is_some (scan_at-here source (Some j) f)
    ∙ sym (ap is_some (ap f at ∙ p.at)))
    (λ other. ap is_some (scan_at-other source (Some j) f a other))) k

scans-passing : (s : State) (h : ℕ) (c : ℕ → ℕ → CallbackPhase) (r : Name → ℕ) (source : SourceRef)
    (i j : ℕ) →
    Passes s h c r source i j → ScansStand s → ScansStand (after_passing s h c r source j)
scans-passing s h c r source i j p scans =
    let u : View = passer (s.view h) r source j in
    let same : (k : ℕ) (a : SourceRef) →
    is_scanning ((with_view s h u).view k) a ≡ is_scanning (s.view k) a =
    scanning-same s h c r source i j p in
    record {
      single = λ a.
          let sums = ap (λ f. total f s.hands) (λ d k. one (same k a d)) in
          let before = scans.single a in
          omega (arith, sums, before);
      cause = λ k a below e.
          let was = scans.cause k a below (sym (same k a) ∙ e) in
          record { requested = was.requested; unscanned = was.unscanned };
      within = λ k y below e.
          related s h u
          (λ v b. (is_scanning v (Node y) ≡ true → 1 ≤ may_scan s v y) → is_scanning v (Node y) ≡ true →
          1 ≤ may_scan s b y)
          (λ v f scanning. f scanning)
          (λ f scanning.
          let before : 1 ≤ may_scan s (s.view h) y = f scanning in
          let ran = p.within y scanning in
          omega (arith, before, ran))
          k (scans.within k y below) (sym (same k (Node y)) ∙ e);
      sealed = scans.sealed;
    }

next-passing : (s : State) (h : ℕ) (c : ℕ → ℕ → CallbackPhase) (r : Name → ℕ) (source : SourceRef)
    (i j : ℕ) →
    Passes s h c r source i j → Sound s → (k : ℕ) (y : Name) → k < s.hands →
    1 ≤ ((after_passing s h c r source j).view k).runs y →
    is_next_of_nearest (after_passing s h c r source j)
    ((after_passing s h c r source j).view k) y ≡ true
next-passing s h c r source i j p sound k y below =
    let v = s.view h in
    let u : View = passer v r source j in
    let w : ℕ → View = (with_view s h u).view in
    let t : State = after_passing s h c r source j in
    related s h u
    (λ v a. (1 ≤ v.runs y → is_next_of_nearest s v y ≡ true) → 1 ≤ a.runs y →
    is_next_of_nearest t a y ≡ true)
    (λ v f run. next-frame s c s.source s.scope_source w v v y (λ a near. refl) ∙ f run)
    (λ f run.
    let old = p.others y run in
    next-frame s c s.source s.scope_source w v u y
    (λ a near. scan_at-other source (Some j) v.scan a (λ at. old.1 (near ∙ ap Some at)))
    ∙ f old.0)
    k (sound.runs.next k y below)

passed-passing : (s : State) (h : ℕ) (c : ℕ → ℕ → CallbackPhase) (r : Name → ℕ) (source : SourceRef)
    (i j : ℕ) →
    Passes s h c r source i j → (y : Name) (a : SourceRef) → nearest_of s y ≡ Some a →
    is_armed (phase_at (after_passing s h c r source j) y) ≡ true →
    WasPassed (after_passing s h c r source j) a y → WasPassed s a y
passed-passing s h c r source i j p y a near armed was =
    let v = s.view h in
    let u : View = passer v r source j in
    elim was [
      | inl scanned ↦ inl scanned
      | inr by ↦
          let before : HasPassed s (s.view by.0) a y =
          related s h u (λ v b. HasPassed s b a y → HasPassed s v a y) (λ _ q. q)
          (λ q.
          source_cases a source
          (λ at.
          let now : u.scan a ≡ Some j =
          ap u.scan at ∙ scan_at-here source (Some j) v.scan in
          let behind : index s y < j = passed-to s u a y j now q in
          passed-from s v a y i (ap v.scan at ∙ p.at)
          ((p.still y armed).1 (near ∙ ap Some at) behind))
          (λ other.
          subst (λ o. MatchOption o ⊥ (λ m. index s y < m))
          (scan_at-other source (Some j) v.scan a other) q))
          by.0 by.2 in
          inr (by.0, by.1, before)
    ]

pub sound-passing : (s : State) (h : ℕ) (c : ℕ → ℕ → CallbackPhase) (r : Name → ℕ)
    (source : SourceRef) (i j : ℕ) →
    Passes s h c r source i j → Sound s → Sound (after_passing s h c r source j)
sound-passing s h c r source i j p sound =
    let u : View = passer (s.view h) r source j in
    let w : ℕ → View = (with_view s h u).view in
    let roles : (k : ℕ) → SameRoles (s.view k) (w k) = related s h u SameRoles (λ _. refl) refl in
    let noted : (k : ℕ) (y : Name) → is_noted (w k) y ≡ is_noted (s.view k) y = λ k y.
    related s h u (λ v a. is_noted a y ≡ is_noted v y) (λ _. refl) refl k in
    record {
      tree = sound.tree;
      hands = sound.hands;
      owned = owned-kept s c s.source s.scope_source w sound.owned roles p.shut (λ b n shut. refl);
      counted = counted-kept s c s.source s.scope_source w sound.counted roles;
      begins = p.begins;
      armed = p.armed;
      runs = record {
        runs = p.runs;
        next = next-passing s h c r source i j p sound;
        cause = λ y e. sound.runs.cause y (p.ran y e);
      };
      scans = scans-passing s h c r source i j p sound.scans;
      requests = record {
        cause = sound.requests.cause;
        seen = λ k a below e.
            let seen : (s.view k).seen ≡ (w k).seen =
            related s h u (λ v b. v.seen ≡ b.seen) (λ _. refl) refl k in
            sound.requests.seen k a below (ap (λ f. f a) seen ∙ e);
        noted = λ k y below e. p.never y (sound.requests.noted k y below (sym (noted k y) ∙ e));
      };
      missed = λ y a near armed was.
          let n = sound.missed y a near (p.still y armed).0 (passed-passing s h c r source i j p y a near armed was) in
          (n.0, n.1, noted n.0 y ∙ n.2);
      associations = associations-kept s c s.source s.scope_source w sound.associations roles;
      scope = record {
        by_hand_0 = sound.scope.by_hand_0
            ∙ related s h u (λ v b. v.requested ≡ b.requested) (λ _. refl) refl 0;
        scan = λ k below e.
            sound.scope.scan k below (sym (scanning-same s h c r source i j p k Scope) ∙ e);
      };
    }
