-- Where stop requests come from, who scans for them, and that no registered callback is missed.
use Rattle.std.specs.Prelude.{◌≡◌, ◌⊎◌, ℕ, ◌+◌, ◌*◌, ◌<◌, ◌≤◌, true, false, ◌||◌, Some}
use Rattle.life_rules.specs.declared.event.Name.{Name}
use Rattle.life_rules.specs.declared.event.SourceRef.{SourceRef}
use Rattle.life_rules.specs.declared.event.SourceRef.TheVariants.{Node}
use Rattle.node_tree.specs.Tree.{is_child}
use Rattle.life_rules.specs.Words.{is_never, is_armed}
use Rattle.life_rules.specs.Views.{View, beside, is_scanning}
use Rattle.common_lemmas.specs.Sums.{one}
use Rattle.life_rules.specs.States.{State, size, phase_at, bits_at, nearest_of}
use Rattle.common_lemmas.specs.Sums.{total}
use Rattle.life_rules.specs.Scans.{HasPassed}
use Rattle.life_rules.specs.Callbacks.{nearest_is_requested}

-- the view is where a scan of x's source may stand: it runs x's callback, holds x, or owes the
-- report of a child of x
abbrev pub may_scan : State → View → Name → ℕ
may_scan s v x =
    v.runs x + v.holds x + total (λ n. one (is_child s.tree x.node n) * v.reports (beside x n))
    (size s)

-- a scan of the source may go on: it is requested, and isn't scanned
pub record IsScannable (s : State) (source : SourceRef) : Type 0 where
  pub requested : (bits_at s source).requested ≡ true
  pub unscanned : (bits_at s source).scanned ≡ false

pub record ScansStand (s : State) : Type 0 where
  -- at most one view scans a source
  pub single : (source : SourceRef) → total (λ h. one (is_scanning (s.view h) source)) s.hands ≤ 1
  pub cause : (h : ℕ) (source : SourceRef) → h < s.hands → is_scanning (s.view h) source ≡ true →
      IsScannable s source
  pub within : (h : ℕ) (x : Name) → h < s.hands → is_scanning (s.view h) (Node x) ≡ true →
      1 ≤ may_scan s (s.view h) x
  -- a source that was scanned is requested
  pub sealed : (source : SourceRef) → (bits_at s source).scanned ≡ true →
      (bits_at s source).requested ≡ true

pub record RequestsFollow (s : State) : Type 0 where
  -- a node's source is requested because a child failed, or where its nearest source is
  pub cause : (x : Name) → (bits_at s (Node x)).requested ≡ true →
      ((bits_at s (Node x)).failed || nearest_is_requested s x) ≡ true
  -- a request that a view has seen stands
  pub seen : (h : ℕ) (source : SourceRef) → h < s.hands → (s.view h).seen source ≡ true →
      (bits_at s source).requested ≡ true
  -- what a view notes of a place, it notes after the place was armed at this generation
  pub noted : (h : ℕ) (x : Name) → h < s.hands →
      ((s.view h).unlooked x || (s.view h).seen_after x) ≡ true → is_never (phase_at s x) ≡ false

-- the source was scanned, or a view's scan of it has passed x
abbrev pub WasPassed : State → SourceRef → Name → Type 0
WasPassed s source x =
    ((bits_at s source).scanned ≡ true)
    ⊎ ((h : ℕ) × (h < s.hands) × HasPassed s (s.view h) source x)

-- some view hasn't looked after x yet, or has seen the request after arming it
abbrev pub IsNoted : State → Name → Type 0
IsNoted s x =
    (h : ℕ) × (h < s.hands) × (((s.view h).unlooked x || (s.view h).seen_after x) ≡ true)

-- a place that is still armed behind a scan is looked after by the view that armed it
abbrev pub NothingMissed : State → Type 0
NothingMissed s =
    (x : Name) (source : SourceRef) → nearest_of s x ≡ Some source →
    is_armed (phase_at s x) ≡ true →
    WasPassed s source x → IsNoted s x
