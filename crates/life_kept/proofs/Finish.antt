-- The step finish.
use Rattle.std.proofs.Common.{◌≡◌, ℕ, ◌+◌, ◌-◌, ◌<◌, ◌≤◌, Bool, true, false, not, ◌&&◌, ◌||◌, nat_lt, refl, sym, ap, ◌∙◌, subst, arith}
use Rattle.std.proofs.lemmas.Bool.{and_parts, ltb-true, cond-true, cond-false, both_ways, not-true}
use Rattle.life_rules.specs.declared.words.ControlWord.TheVariants.{Done}
use Rattle.life_rules.specs.declared.event.Name.{Name}
use Rattle.life_rules.specs.declared.event.Place.{Place}
use Rattle.node_tree.specs.Tree.{is_root, is_child}
use Rattle.life_rules.specs.Words.{is_idle, is_held, is_under_way, is_armed, is_running, pending}
use Rattle.life_rules.specs.Views.{View, beside, gain, lose}
use Rattle.common_lemmas.specs.Sums.{one}
use Rattle.life_rules.specs.States.{State, size, is_live, is_place, control_at, phase_at, name_at, stand}
use Rattle.life_rules.specs.LifeSteps.{may_leave_node, may_finish, after_finish}
use Rattle.life_rules.specs.Owned.{Fits, IsOwned, weight}
use Rattle.life_rules.specs.Sound.{Sound}
use Rattle.common_lemmas.proofs.Bool.{either}
use Rattle.life_kept.proofs.Trees.{root-orphan}
use Rattle.life_rules.proofs.Names.{by_name, gain-here, gain-other, lose-here, lose-other}
use Rattle.life_kept.proofs.Fitting.{Fits-along, done-Fits-root, done-Fits-child, Fits-busy}
use Rattle.life_kept.proofs.Puts.{put, IsPut, reads-here, moves, stays, owned-other, counted-put, sound-put, scan-more}
use Rattle.life_kept.proofs.Holding.{IsHeld, held-by, MayLeave, leave-needs, leave-other, weight-other, parent-begun}

-- the hand's view of the root that it finishes, and of another node
abbrev finishing_root : Name → View → View
finishing_root x v = record v { holds = lose x v.holds; finished = gain x v.finished }

abbrev finishing_child : Name → View → View
finishing_child x v = record v { holds = lose x v.holds; reports = gain x v.reports }

-- what finish needs
record MayFinish (s : State) (h : ℕ) (x : Name) : Type 0 where
  sound : Sound s
  below : h < s.hands
  within : x.node < size s
  leave : MayLeave (s.view h) x
  resting : (is_armed (phase_at s x) || is_running (phase_at s x)) ≡ false

module _ (s : State) (h : ℕ) (x : Name) (needs : MayFinish s h x) where
  finish-held : IsHeld s x
  finish-held = held-by s h x needs.sound needs.below needs.leave.holds

  finish-was : (stand s (λ v. v.holds) x ≡ 1) × (stand s (λ v. v.starts) x ≡ 0)
      × (stand s (λ v. v.reports) x ≡ 0) × (stand s (λ v. v.finished) x ≡ 0)
  finish-was =
      let busy = Fits-busy (ap is_under_way finish-held.word) (needs.sound.owned.names x) in
      (busy.holds ∙ ap (λ w. one (is_held w)) finish-held.word, busy.starts, busy.reports, busy.finished)

  finish-left : (u : View) → IsPut s h x Done u → u.holds ≡ lose x (s.view h).holds →
      stand (put s h x Done u) (λ v. v.holds) x ≡ 0
  finish-left u step holds =
      let m = moves s h x Done u step (λ v. v.holds) x in
      let less : u.holds x ≡ (s.view h).holds x - 1 = (λ k. holds k x) ∙ lose-here x (s.view h).holds in
      let was : stand s (λ v. v.holds) x ≡ 1 = finish-was.0 in
      let had : 1 ≤ (s.view h).holds x = needs.leave.holds in
      omega (arith, m, less, was, had)

  -- the parts of the law that go alike for the root and another node
  finish-sound : (u : View) → IsPut s h x Done u → u.holds ≡ lose x (s.view h).holds →
      u.starts ≡ (s.view h).starts → ((y : Name) → (s.view h).reports y ≤ u.reports y) →
      ((y : Name) → (x ≡ y → ⊥) → u.reports y ≡ (s.view h).reports y) →
      ((y : Name) → (x ≡ y → ⊥) → u.finished y ≡ (s.view h).finished y) →
      IsOwned (put s h x Done u) x →
      ((y : Name) (n : ℕ) → is_child s.tree y.node n ≡ true → x ≡ beside y n →
      weight (put s h x Done u) x ≡ weight s x) →
      Sound (put s h x Done u)
  finish-sound u step holds starts more reports finished here weights =
      let v : View = s.view h in
      sound-put s h x Done u step
      (λ y. by_name x y
      (λ e. subst (IsOwned (put s h x Done u)) e here)
      (λ ne. owned-other s h x Done u step y ne ((λ k. holds k y) ∙ lose-other x y v.holds ne) (λ k. starts k y) (reports y ne) (finished y ne)))
      (counted-put s h x Done u step (sym (ap pending finish-held.word))
      (λ y n child. by_name x (beside y n)
      (λ e. subst (λ z. weight (put s h x Done u) z ≡ weight s z) e (weights y n child e))
      (λ ne. weight-other s h x Done u step (beside y n) ne (λ k. starts k (beside y n)) (reports (beside y n) ne))))
      refl (parent-begun s h x Done u step (ap is_idle finish-held.word))
      (λ armed. absurd (both_ways _ needs.resting armed))
      (λ y on. scan-more s v u y step.views
      (let e : u.holds y ≡ v.holds y = (λ k. holds k y) ∙ lose-other x y v.holds (leave-other s h x y needs.leave.scans on) in omega (arith, e))
      (λ n child. more (beside y n)))

  finish-root : is_root s.tree x.node ≡ true → Sound (put s h x Done (finishing_root x (s.view h)))
  finish-root root =
      let v : View = s.view h in
      let u : View = finishing_root x v in
      let step : IsPut s h x Done u =
      record { sound = needs.sound; hand = needs.below; live = finish-held.live; views = refl } in
      let t : State = put s h x Done u in
      let was = finish-was in
      let more : gain x v.finished x ≡ v.finished x + 1 = gain-here x v.finished in
      let m : stand t (λ v. v.finished) x + v.finished x ≡ stand s (λ v. v.finished) x + gain x v.finished x =
      moves s h x Done u step (λ v. v.finished) x in
      let here : Fits (stand t (λ v. v.holds) x) (stand t (λ v. v.starts) x) (stand t (λ v. v.reports) x)
      (stand t (λ v. v.finished) x) (is_live t x) true Done =
      done-Fits-root (finish-left u step refl) (stays s h x Done u step (λ v. v.starts) x refl ∙ was.1)
      (stays s h x Done u step (λ v. v.reports) x refl ∙ was.2) (omega (arith, m, more, was.3)) in
      finish-sound u step refl refl (λ y. omega arith) (λ y ne. refl) (λ y ne. gain-other x y v.finished ne)
      (Fits-along refl refl refl refl refl root (reads-here s h x Done u step) here)
      (λ y n child e.
      let node : n ≡ x.node = λ k. (sym e k).node in
      let orphan : is_child s.tree y.node x.node ≡ false =
      root-orphan s.tree needs.sound.tree y.node x.node needs.within root in
      absurd (both_ways (is_child s.tree y.node x.node) orphan
      (subst (λ m. is_child s.tree y.node m ≡ true) node child)))

  finish-child : is_root s.tree x.node ≡ false → Sound (put s h x Done (finishing_child x (s.view h)))
  finish-child child =
      let v : View = s.view h in
      let u : View = finishing_child x v in
      let step : IsPut s h x Done u =
      record { sound = needs.sound; hand = needs.below; live = finish-held.live; views = refl } in
      let t : State = put s h x Done u in
      let was = finish-was in
      let more : gain x v.reports x ≡ v.reports x + 1 = gain-here x v.reports in
      let m : stand t (λ v. v.reports) x + v.reports x ≡ stand s (λ v. v.reports) x + gain x v.reports x =
      moves s h x Done u step (λ v. v.reports) x in
      let owed : stand t (λ v. v.reports) x ≡ 1 = omega (arith, m, more, was.2) in
      let starts : stand t (λ v. v.starts) x ≡ stand s (λ v. v.starts) x = stays s h x Done u step (λ v. v.starts) x refl in
      let here : Fits (stand t (λ v. v.holds) x) (stand t (λ v. v.starts) x) (stand t (λ v. v.reports) x)
      (stand t (λ v. v.finished) x) (is_live t x) false Done =
      done-Fits-child (finish-left u step refl) (starts ∙ was.1) owed
      (stays s h x Done u step (λ v. v.finished) x refl ∙ was.3) in
      let now : one (is_under_way (control_at t x)) ≡ 0 =
      ap (λ w. one (is_under_way w)) (reads-here s h x Done u step) in
      let before : one (is_under_way (control_at s x)) ≡ 1 = ap (λ w. one (is_under_way w)) finish-held.word in
      finish-sound u step refl refl (λ y. omega arith) (λ y ne. gain-other x y v.reports ne) (λ y ne. refl)
      (Fits-along refl refl refl refl refl child (reads-here s h x Done u step) here)
      (λ y n child e. omega (arith, owed, starts, was.2, now, before))

pub sound-finish : (s : State) (h : ℕ) (p : Place) → Sound s → h < s.hands →
    may_finish s h p ≡ true → Sound (after_finish s h p)
sound-finish s h p sound below may =
    let x : Name = name_at s p in
    let resting : Bool = not (is_armed (phase_at s x) || is_running (phase_at s x)) in
    let leave : Bool = may_leave_node (s.view h) x in
    let parts = and_parts (is_place s p) (leave && resting) may in
    let more = and_parts leave resting parts.1 in
    let there = and_parts (nat_lt p.block s.blocks) (nat_lt p.node (size s)) parts.0 in
    let needs : MayFinish s h x = record {
      sound = sound;
      below = below;
      within = ltb-true p.node (size s) there.1;
      leave = leave-needs (s.view h) x more.0;
      resting = not-true (is_armed (phase_at s x) || is_running (phase_at s x)) more.1;
    } in
    either (is_root s.tree p.node)
    (λ root. subst (λ u. Sound (put s h x Done u))
    (sym (cond-true (is_root s.tree p.node) (finishing_root x (s.view h)) (finishing_child x (s.view h)) root))
    (finish-root s h x needs root))
    (λ child. subst (λ u. Sound (put s h x Done u))
    (sym (cond-false (is_root s.tree p.node) (finishing_root x (s.view h)) (finishing_child x (s.view h)) child))
    (finish-child s h x needs child))
