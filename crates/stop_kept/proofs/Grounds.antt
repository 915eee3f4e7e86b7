-- Each request that is allowed has a ground.
use Rattle.std.specs.Option.{option_map_or}
use Rattle.std.specs.Prelude.{nat_le}
use Rattle.std.proofs.Common.{◌≡◌, ℕ, ◌<◌, ◌≤◌, Bool, true, false, ◌||◌, Option, Some, None, inl, inr, refl, ap, subst, arith, zero, suc, ◌*◌, eqb, not, ◌&&◌, if◌then◌else◌}
use Rattle.std.proofs.lemmas.Bool.{and_parts, or_cases, both_ways, or_left, or_right, leb-true, eqb-true, not_from_false, not-true}
use Rattle.life_rules.specs.declared.event.Name.{Name}
use Rattle.life_rules.specs.declared.event.SourceAt.TheVariants.{Scope as AtScope}
use Rattle.life_rules.specs.declared.event.SourceRef.{SourceRef}
use Rattle.life_rules.specs.declared.event.SourceRef.TheVariants.{Scope, Node}
use Rattle.life_rules.specs.declared.words.ControlWord.{ControlWord}
use Rattle.life_rules.specs.declared.words.ControlWord.TheVariants.{Idle, Busy, ReadyLoop, ReadyPool, Parked, Done}
use Rattle.node_tree.specs.Tree.{is_child}
use Rattle.life_rules.specs.Words.{is_idle, pending}
use Rattle.life_rules.specs.Views.{View, beside}
use Rattle.common_lemmas.specs.Sums.{one}
use Rattle.life_rules.specs.States.{State, bits_at, nearest_of, stand, size, control_at}
use Rattle.common_lemmas.specs.Sums.{total}
use Rattle.life_rules.specs.StopSteps.{some_below, owes_report_below, has_begun_below, has_seen_nearest, may_forward, is_counting, is_live_for, may_request_first, may_repeat, may_request}
use Rattle.life_rules.specs.Owned.{Counted, weight}
use Rattle.life_rules.specs.Callbacks.{nearest_is_requested}
use Rattle.life_rules.specs.Requests.{may_scan}
use Rattle.life_rules.specs.Sound.{Sound}
use Rattle.common_lemmas.proofs.Bool.{one-true}
use Rattle.common_lemmas.proofs.Totals.{total-at}
use Rattle.life_rules.proofs.Readings.{stand-at}
use Rattle.stop_kept.proofs.Standing.{holds-under_way, begun, runs-running}
use Rattle.stop_kept.proofs.Sources.{requested-begun}
use Rattle.stop_kept.proofs.Asking.{Grounds}

-- a test that holds somewhere below n
pub some_below-at : (test : ℕ → Bool) (n : ℕ) → some_below test n ≡ true →
    (i : ℕ) × (i < n) × (test i ≡ true)
some_below-at test zero e = cc
some_below-at test (suc n) e =
    elim (or_cases _ _ e) [
      | inl before ↦ let at = some_below-at test n before in (at.0, omega (arith, at.1), at.2)
      | inr here ↦ (n, omega arith, here)
    ]

-- a child of x whose report the hand owes
record OwedChild (s : State) (v : View) (x : Name) : Type 0 where
  node : ℕ
  below : node < size s
  child : is_child s.tree x.node node ≡ true
  owed : 1 ≤ v.reports (beside x node)

owed_child : (s : State) (v : View) (x : Name) → owes_report_below s v x ≡ true → OwedChild s v x
owed_child s v x e =
    let at = some_below-at _ (size s) e in
    let parts = and_parts _ _ at.2 in
    record { node = at.0; below = at.1; child = parts.0; owed = leb-true _ _ parts.1 }

owed-scans : (s : State) (v : View) (x : Name) → OwedChild s v x → 1 ≤ may_scan s v x
owed-scans s v x c =
    let f : ℕ → ℕ = λ n. one (is_child s.tree x.node n) * v.reports (beside x n) in
    let at : f c.node ≤ total f (size s) = total-at f (size s) c.node c.below in
    let counts : f c.node ≡ 1 * v.reports (beside x c.node) =
    ap (λ k. k * v.reports (beside x c.node)) (one-true c.child) in
    let owed = c.owed in
    omega (arith, at, counts, owed)

pending-not_idle : (word : ControlWord) → 1 ≤ pending word → is_idle word ≡ false
pending-not_idle Idle l = absurd (omega (arith, l))
pending-not_idle (Busy children) l = refl
pending-not_idle ReadyLoop l = refl
pending-not_idle ReadyPool l = refl
pending-not_idle Parked l = refl
pending-not_idle Done l = refl

owed-begun : (s : State) (h : ℕ) (x : Name) → Counted s → h < s.hands → OwedChild s (s.view h) x →
    is_idle (control_at s x) ≡ false
owed-begun s h x counted l c =
    let y : Name = beside x c.node in
    let f : ℕ → ℕ = λ n. one (is_child s.tree x.node n) * weight s (beside x n) in
    let at : f c.node ≤ total f (size s) = total-at f (size s) c.node c.below in
    let counts : f c.node ≡ 1 * weight s y = ap (λ k. k * weight s y) (one-true c.child) in
    let part : (s.view h).reports y ≤ stand s (λ v. v.reports) y = stand-at s (λ v. v.reports) h y l in
    let heavy : 1 ≤ weight s y = let owed = c.owed in omega (arith, part, owed) in
    let all : pending (control_at s x) ≡ total f (size s) = counted x in
    pending-not_idle (control_at s x) (omega (arith, at, counts, heavy, all))

seen-requested : (s : State) (h : ℕ) (o : Option SourceRef) → Sound s → h < s.hands →
    option_map_or (s.view h).seen o false ≡ true →
    option_map_or (λ a. (bits_at s a).requested) o false ≡ true
seen-requested s h None sound l e = e
seen-requested s h (Some a) sound l e = sound.requests.seen h a l e

-- a hand that may pass the request of the nearest source on
record Forwards (s : State) (v : View) (x : Name) : Type 0 where
  begun : is_idle (control_at s x) ≡ false
  scans : 1 ≤ may_scan s v x
  cause : nearest_is_requested s x ≡ true

forwards : (s : State) (h : ℕ) (x : Name) → Sound s → h < s.hands →
    may_forward s (s.view h) x ≡ true →
    Forwards s (s.view h) x
forwards s h x sound l may =
    let v = s.view h in
    elim (or_cases _ _ may) [
      | inl runs ↦
          let run : 1 ≤ v.runs x = leb-true _ _ runs in
          let running = runs-running s h x sound.runs l run in
          record {
            begun = begun s x (sound.armed x (or_right _ _ running));
            scans = omega (arith, run);
            cause = sound.runs.cause x (or_left _ _ running);
          }
      | inr holds ↦
          let fresh = not (has_begun_below s x) in
          let seen = has_seen_nearest s v x in
          let a = and_parts (nat_le 1 (v.holds x)) (fresh && seen) holds in
          let b = and_parts fresh seen a.1 in
          let hold : 1 ≤ v.holds x = leb-true _ _ a.0 in
          record {
            begun = begun s x (holds-under_way s h x sound.owned l hold);
            scans = omega (arith, hold);
            cause = seen-requested s h (nearest_of s x) sound l b.1;
          }
    ]

pub scope-grounds : (s : State) (h : ℕ) (failure : Bool) → Sound s → h < s.hands →
    may_request s h AtScope failure ≡ true → Grounds s h Scope failure
scope-grounds s h failure sound l may =
    record {
      begun = refl;
      within = λ x e none. cc;
      cause = λ x e. cc;
      scope = λ e none.
          elim (or_cases (may_request_first s h AtScope failure) (may_repeat s (s.view h) Scope failure) may) [
            | inl first ↦
                let b = and_parts (not failure) (eqb h 0 && is_counting s.kind) first in
                let d = and_parts (eqb h 0) (is_counting s.kind) b.1 in
                eqb-true h 0 d.0
            | inr again ↦
                let seen = (s.view h).seen Scope in
                let live = is_live_for s (s.view h) Scope in
                let b = and_parts (not failure) (seen && live) again in
                let d = and_parts seen live b.1 in
                absurd (both_ways _ none (sound.requests.seen h Scope l d.0))
          ];
    }

node_in : SourceRef → Name → Name
node_in Scope x = x
node_in (Node y) x = y

-- grounds on the source of the node x alone
node-grounds : (s : State) (h : ℕ) (x : Name) (failure : Bool) → is_idle (control_at s x) ≡ false →
    ((bits_at s (Node x)).requested ≡ false → 1 ≤ may_scan s (s.view h) x) →
    (((bits_at s (Node x)).failed || failure) || nearest_is_requested s x) ≡ true →
    Grounds s h (Node x) failure
node-grounds s h x failure busy within cause =
    record {
      begun = not_from_false _ busy;
      within = λ y e none.
          let at : x ≡ y = cc in
          subst (λ z. 1 ≤ may_scan s (s.view h) z) at (within none);
      cause = λ y e.
          let at : x ≡ y = cc in
          subst (λ z. (((bits_at s (Node x)).failed || failure) || nearest_is_requested s z) ≡ true) at cause;
      scope = λ e none. cc;
    }

-- a first request on a node's source, because a child failed or to pass a request on
pub first-grounds : (s : State) (h : ℕ) (x : Name) (failure : Bool) → Sound s → h < s.hands →
    (if failure then owes_report_below s (s.view h) x else may_forward s (s.view h) x) ≡ true →
    Grounds s h (Node x) failure
first-grounds s h x true sound l owes =
    let c : OwedChild s (s.view h) x = owed_child s (s.view h) x owes in
    node-grounds s h x true (owed-begun s h x sound.counted l c) (λ none. owed-scans s (s.view h) x c)
    (or_left _ _ (or_right _ true refl))
first-grounds s h x false sound l may =
    let f : Forwards s (s.view h) x = forwards s h x sound l may in
    node-grounds s h x false f.begun (λ none. f.scans) (or_right _ _ f.cause)

pub repeat-grounds : (s : State) (h : ℕ) (x : Name) (failure : Bool) → Sound s → h < s.hands →
    (s.view h).seen (Node x) ≡ true → Grounds s h (Node x) failure
repeat-grounds s h x failure sound l seen =
    let requested : (bits_at s (Node x)).requested ≡ true = sound.requests.seen h (Node x) l seen in
    node-grounds s h x failure (not-true _ (requested-begun s (Node x) sound requested))
    (λ none. absurd (both_ways _ none requested))
    (elim (or_cases _ _ (sound.requests.cause x requested)) [
      | inl failed ↦ or_left _ _ (or_left _ failure failed)
      | inr near ↦ or_right _ _ near
    ])
