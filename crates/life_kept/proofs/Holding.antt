-- What a hold and an owed start tell of a node, and what a step that writes its word keeps.
use Rattle.std.proofs.Common.{◌≡◌, ℕ, ◌+◌, ◌*◌, ◌<◌, ◌≤◌, true, false, ◌&&◌, sym, ap, ◌∙◌, subst, arith}
use Rattle.std.proofs.lemmas.Bool.{and_parts, leb-true, both_ways, not-true}
use Rattle.life_rules.specs.declared.words.ControlWord.{ControlWord}
use Rattle.life_rules.specs.declared.words.ControlWord.TheVariants.{Idle, Busy}
use Rattle.life_rules.specs.declared.event.Name.{Name}
use Rattle.life_rules.specs.declared.event.SourceRef.TheVariants.{Node}
use Rattle.node_tree.specs.Tree.{is_child}
use Rattle.life_rules.specs.Words.{is_idle, is_held, is_under_way, pending}
use Rattle.life_rules.specs.Views.{View, beside, is_scanning}
use Rattle.common_lemmas.specs.Sums.{one}
use Rattle.life_rules.specs.States.{State, size, is_live, control_at, stand}
use Rattle.life_rules.specs.LifeSteps.{may_leave_node}
use Rattle.life_rules.specs.Owned.{IsOwned, weight, owed_below}
use Rattle.life_rules.specs.Sound.{Sound}
use Rattle.common_lemmas.proofs.Bool.{one-is}
use Rattle.life_rules.proofs.Readings.{begun-live, stand-at}
use Rattle.common_lemmas.proofs.Totals.{total-at}
use Rattle.life_rules.proofs.Names.{by_name}
use Rattle.life_kept.proofs.Fitting.{Fits-busy, busy-Fits, held-word, idle-word}
use Rattle.life_kept.proofs.Puts.{put, IsPut, reads-here, reads-other, moves, stays, owned-other, counted-put, sound-put, scan-more}

-- a node that a view holds is live, and busy with no child
pub record IsHeld (s : State) (x : Name) : Type 0 where
  pub live : is_live s x ≡ true
  pub word : control_at s x ≡ Busy 0

pub held-by : (s : State) (h : ℕ) (x : Name) → Sound s → h < s.hands → 1 ≤ (s.view h).holds x → IsHeld s x
held-by s h x sound below holds =
    let all : (s.view h).holds x ≤ stand s (λ v. v.holds) x = stand-at s (λ v. v.holds) h x below in
    let fit : stand s (λ v. v.holds) x ≡ one (is_held (control_at s x)) = (sound.owned.names x).held in
    let word : control_at s x ≡ Busy 0 =
    held-word (control_at s x) (one-is (omega (arith, all, fit, holds))) in
    record { live = begun-live s x (ap is_idle word); word = word }

-- a node whose start a view owes is live and idle
pub record IsOwedStart (s : State) (x : Name) : Type 0 where
  pub live : is_live s x ≡ true
  pub word : control_at s x ≡ Idle

pub owed-start : (s : State) (h : ℕ) (x : Name) → Sound s → h < s.hands → 1 ≤ (s.view h).starts x → IsOwedStart s x
owed-start s h x sound below owes =
    let all : (s.view h).starts x ≤ stand s (λ v. v.starts) x = stand-at s (λ v. v.starts) h x below in
    let fit : stand s (λ v. v.starts) x ≤ one (is_live s x && is_idle (control_at s x)) = (sound.owned.names x).start in
    let parts = and_parts (is_live s x) (is_idle (control_at s x)) (one-is (omega (arith, all, fit, owes))) in
    record { live = parts.0; word = idle-word (control_at s x) parts.1 }

-- a child weighs at most what its parent's word counts
pub weight-most : (s : State) (y : Name) (n : ℕ) → Sound s → n < size s → is_child s.tree y.node n ≡ true →
    weight s (beside y n) ≤ pending (control_at s y)
weight-most s y n sound below child =
    let at : one (is_child s.tree y.node n) * weight s (beside y n) ≤ owed_below s y =
    total-at (λ m. one (is_child s.tree y.node m) * weight s (beside y m)) (size s) n below in
    let whole : one (is_child s.tree y.node n) * weight s (beside y n) ≡ 1 * weight s (beside y n) =
    λ k. one (child k) * weight s (beside y n) in
    let counts : pending (control_at s y) ≡ owed_below s y = sound.counted y in
    omega (arith, at, whole, counts)

module _ (s : State) (h : ℕ) (x : Name) (w : ControlWord) (v : View) (p : IsPut s h x w v) where
  -- the node was and is under way, and is now held where its word says so
  pub owned-busy : is_under_way (control_at s x) ≡ true → is_under_way w ≡ true →
      v.holds x + one (is_held (control_at s x)) ≡ (s.view h).holds x + one (is_held w) →
      v.starts x ≡ (s.view h).starts x → v.reports x ≡ (s.view h).reports x →
      v.finished x ≡ (s.view h).finished x → IsOwned (put s h x w v) x
  owned-busy was on holds starts reports finished =
      let old = Fits-busy was (p.sound.owned.names x) in
      let word : control_at (put s h x w v) x ≡ w = reads-here s h x w v p in
      let now : one (is_held (control_at (put s h x w v) x)) ≡ one (is_held w) = ap (λ u. one (is_held u)) word in
      let m : stand (put s h x w v) (λ u. u.holds) x + (s.view h).holds x ≡ stand s (λ u. u.holds) x + v.holds x =
      moves s h x w v p (λ u. u.holds) x in
      let before : stand s (λ u. u.holds) x ≡ one (is_held (control_at s x)) = old.holds in
      busy-Fits (ap is_under_way word ∙ on) (record {
        holds = omega (arith, m, before, holds, now);
        starts = stays s h x w v p (λ u. u.starts) x starts ∙ old.starts;
        reports = stays s h x w v p (λ u. u.reports) x reports ∙ old.reports;
        finished = stays s h x w v p (λ u. u.finished) x finished ∙ old.finished;
      })

  -- a name weighs as before where no view owes it anything new
  pub weight-stays : is_under_way (control_at s x) ≡ is_under_way w → (y : Name) →
      v.starts y ≡ (s.view h).starts y → v.reports y ≡ (s.view h).reports y →
      weight (put s h x w v) y ≡ weight s y
  weight-stays same y starts reports =
      let way : is_under_way (control_at (put s h x w v) y) ≡ is_under_way (control_at s y) =
      by_name x y
      (λ e. subst (λ z. is_under_way (control_at (put s h x w v) z) ≡ is_under_way (control_at s z)) e
      (ap is_under_way (reads-here s h x w v p) ∙ sym same))
      (λ ne. ap is_under_way (reads-other s h x w v p y ne)) in
      let a = stays s h x w v p (λ u. u.starts) y starts in
      let b = stays s h x w v p (λ u. u.reports) y reports in
      λ k. one (way k) + a k + b k

  -- another name weighs as before
  pub weight-other : (y : Name) → (x ≡ y → ⊥) → v.starts y ≡ (s.view h).starts y →
      v.reports y ≡ (s.view h).reports y → weight (put s h x w v) y ≡ weight s y
  weight-other y ne starts reports =
      let way = reads-other s h x w v p y ne in
      let a = stays s h x w v p (λ u. u.starts) y starts in
      let b = stays s h x w v p (λ u. u.reports) y reports in
      λ k. one (is_under_way (way k)) + a k + b k

  -- no idle node has a child that isn't idle
  pub parent-begun : is_idle (control_at s x) ≡ false → (y : Name) (n : ℕ) →
      is_idle (control_at s y) ≡ true → is_child s.tree y.node n ≡ true → beside y n ≡ x → ⊥
  parent-begun begun y n idle child e =
      both_ways (is_idle (control_at s x)) begun
      (subst (λ z. is_idle (control_at s z) ≡ true) e ((p.sound.begins y idle).children n child))

  -- a node that stays under way changes hands
  pub sound-busy : is_under_way (control_at s x) ≡ true → is_under_way w ≡ true → is_idle w ≡ false →
      is_idle (control_at s x) ≡ false → pending w ≡ pending (control_at s x) →
      v.starts ≡ (s.view h).starts → v.reports ≡ (s.view h).reports → v.finished ≡ (s.view h).finished →
      v.holds x + one (is_held (control_at s x)) ≡ (s.view h).holds x + one (is_held w) →
      ((y : Name) → (x ≡ y → ⊥) → v.holds y ≡ (s.view h).holds y) →
      ((y : Name) → is_scanning (s.view h) (Node y) ≡ true → (s.view h).holds y ≤ v.holds y) →
      Sound (put s h x w v)
  sound-busy was on busy begun counts starts reports finished here other scans =
      sound-put s h x w v p
      (λ y. by_name x y
      (λ e. subst (IsOwned (put s h x w v)) e
      (owned-busy was on here (λ k. starts k x) (λ k. reports k x) (λ k. finished k x)))
      (λ ne. owned-other s h x w v p y ne (other y ne) (λ k. starts k y) (λ k. reports k y) (λ k. finished k y)))
      (counted-put s h x w v p counts
      (λ y n child. weight-stays (was ∙ sym on) (beside y n) (λ k. starts k (beside y n)) (λ k. reports k (beside y n))))
      busy (parent-begun begun) (λ armed. on)
      (λ y scan. scan-more s (s.view h) v y p.views (scans y scan)
      (λ n child. let e : v.reports (beside y n) ≡ (s.view h).reports (beside y n) = λ k. reports k (beside y n) in
      omega (arith, e)))

-- a view that leaves a node scans nodes other than that one
pub leave-other : (s : State) (h : ℕ) (x y : Name) → is_scanning (s.view h) (Node x) ≡ false →
    is_scanning (s.view h) (Node y) ≡ true → x ≡ y → ⊥
leave-other s h x y off on e =
    both_ways (is_scanning (s.view h) (Node x)) off (subst (λ z. is_scanning (s.view h) (Node z) ≡ true) (sym e) on)

-- what a view needs to leave a node
pub record MayLeave (v : View) (x : Name) : Type 0 where
  pub holds : 1 ≤ v.holds x
  pub scans : is_scanning v (Node x) ≡ false

pub leave-needs : (v : View) (x : Name) → may_leave_node v x ≡ true → MayLeave v x
leave-needs v x may =
    let parts = and_parts _ _ may in
    record { holds = leb-true _ _ parts.0; scans = not-true _ parts.1 }
