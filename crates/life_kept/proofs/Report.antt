-- The step report.
use Rattle.std.proofs.Common.{◌≡◌, ℕ, ◌+◌, ◌-◌, ◌*◌, ◌<◌, ◌≤◌, Bool, true, false, not, ◌&&◌, ◌==◌, nat_le, if◌then◌else◌, refl, sym, ap, ◌∙◌, subst, arith}
use Rattle.std.specs.Option.{option_map_or}
use Rattle.std.proofs.lemmas.Bool.{and_parts, leb-true, eqb-true, eqb-false, cond-true, cond-false, not-true, ne_eqb}
use Rattle.life_rules.specs.declared.words.ControlWord.{ControlWord}
use Rattle.life_rules.specs.declared.words.ControlWord.TheVariants.{Busy, Done}
use Rattle.life_rules.specs.declared.event.Name.{Name}
use Rattle.life_rules.specs.declared.event.Place.{Place}
use Rattle.life_rules.specs.declared.event.SourceRef.TheVariants.{Node}
use Rattle.node_tree.specs.Tree.{is_root, is_child, parent_of}
use Rattle.life_rules.specs.Words.{is_idle, is_done, is_held, is_under_way, one_less, pending}
use Rattle.life_rules.specs.Views.{View, beside, gain, lose, is_scanning}
use Rattle.common_lemmas.specs.Sums.{one}
use Rattle.life_rules.specs.States.{State, size, is_live, is_place, control_at, name_of, name_at, stand}
use Rattle.life_rules.specs.LifeSteps.{may_report, after_report, reported_to}
use Rattle.life_rules.specs.Owned.{Fits, IsOwned, weight, owed_below, Counted}
use Rattle.life_rules.specs.Sound.{Sound}
use Rattle.common_lemmas.proofs.Bool.{either, one-is, one-most, one-and_false}
use Rattle.common_lemmas.proofs.Totals.{total-moved}
use Rattle.common_lemmas.proofs.Options.{map_or-some}
use Rattle.life_rules.proofs.Readings.{begun-live, stand-at}
use Rattle.life_kept.proofs.Trees.{parent-child, child-within, parent-same}
use Rattle.life_rules.proofs.Names.{by_name, gain-here, gain-other, lose-here, lose-other}
use Rattle.life_kept.proofs.Fitting.{Fits-along, done-word, pending-word, gain-least}
use Rattle.life_kept.proofs.Puts.{put, IsPut, reads-here, reads-other, moves, stays, owned-other, counted-at, sound-put, scan-more, times-same}
use Rattle.life_kept.proofs.Holding.{leave-other, weight-most, weight-other, weight-stays, parent-begun, owned-busy}

-- what report needs: c is a child of x, whose report the hand owes, and x's source isn't scanned
record MayReport (s : State) (h : ℕ) (x : Name) (n : ℕ) : Type 0 where
  sound : Sound s
  below : h < s.hands
  child : is_child s.tree x.node n ≡ true
  owes : 1 ≤ (s.view h).reports (beside x n)
  scans : is_scanning (s.view h) (Node x) ≡ false

-- the hand's view after it, where x waits for more children, and after the last
abbrev reporting : Name → View → View
reporting c v = record v { reports = lose c v.reports }

abbrev reporting_last : Name → Name → View → View
reporting_last c x v = record v { reports = lose c v.reports; holds = gain x v.holds }

module _ (s : State) (h : ℕ) (x : Name) (n : ℕ) (needs : MayReport s h x n) where
  owed-report : (stand s (λ v. v.reports) (beside x n) ≡ 1) × (control_at s (beside x n) ≡ Done)
      × (is_root s.tree n ≡ false)
  owed-report =
      let c : Name = beside x n in
      let word : ControlWord = control_at s c in
      let all : (s.view h).reports c ≤ stand s (λ v. v.reports) c = stand-at s (λ v. v.reports) h c needs.below in
      let fit : stand s (λ v. v.reports) c ≤ one (is_done word && not (is_root s.tree n)) =
      (needs.sound.owned.names c).report in
      let owes : 1 ≤ (s.view h).reports c = needs.owes in
      let most : one (is_done word && not (is_root s.tree n)) ≤ 1 = one-most (is_done word && not (is_root s.tree n)) in
      let parts = and_parts (is_done word) (not (is_root s.tree n)) (one-is (omega (arith, all, fit, owes))) in
      (omega (arith, all, fit, owes, most), done-word word parts.0, not-true (is_root s.tree n) parts.1)

  -- the parent waits for at least this child
  waits : 1 ≤ pending (control_at s x)
  waits =
      let most = weight-most s x n needs.sound (child-within s.tree x.node n needs.child) needs.child in
      let owed : stand s (λ v. v.reports) (beside x n) ≡ 1 = owed-report.0 in
      omega (arith, most, owed)

  waits-word : control_at s x ≡ Busy (pending (control_at s x))
  waits-word = pending-word (control_at s x) waits

  one_less-word : one_less (control_at s x) ≡ Busy (pending (control_at s x) - 1)
  one_less-word = ap one_less waits-word

  apart : beside x n ≡ x → ⊥
  apart e =
      let done : control_at s x ≡ Done = subst (λ z. control_at s z ≡ Done) e owed-report.1 in
      let w = waits in
      let none : pending (control_at s x) ≡ 0 = ap pending done in
      omega (arith, w, none)

  -- the hand's view: the report is paid, and x is held after the last
  module _ (u : View) (step : IsPut s h x (one_less (control_at s x)) u)
      (reports : u.reports ≡ lose (beside x n) (s.view h).reports) (starts : u.starts ≡ (s.view h).starts)
      (finished : u.finished ≡ (s.view h).finished)
      (holds : u.holds x + one (is_held (control_at s x)) ≡ (s.view h).holds x + one (is_held (one_less (control_at s x))))
      (others : (y : Name) → (x ≡ y → ⊥) → u.holds y ≡ (s.view h).holds y) where
    abbrev reported : State
    reported = put s h x (one_less (control_at s x)) u

    reports-other : (y : Name) → (beside x n ≡ y → ⊥) → u.reports y ≡ (s.view h).reports y
    reports-other y ne = (λ k. reports k y) ∙ lose-other (beside x n) y (s.view h).reports ne

    report-paid : stand reported (λ v. v.reports) (beside x n) ≡ 0
    report-paid =
        let c : Name = beside x n in
        let m = moves s h x (one_less (control_at s x)) u step (λ v. v.reports) c in
        let less : u.reports c ≡ (s.view h).reports c - 1 =
        (λ k. reports k c) ∙ lose-here c (s.view h).reports in
        let was : stand s (λ v. v.reports) c ≡ 1 = owed-report.0 in
        let owes : 1 ≤ (s.view h).reports c = needs.owes in
        omega (arith, m, less, was, owes)

    child-owned : IsOwned reported (beside x n)
    child-owned =
        let c : Name = beside x n in
        let ne : x ≡ c → ⊥ = λ e. apart (sym e) in
        let old = needs.sound.owned.names c in
        let none = report-paid in
        let kept : Fits (stand s (λ v. v.holds) c) (stand s (λ v. v.starts) c) (stand reported (λ v. v.reports) c)
        (stand s (λ v. v.finished) c) (is_live s c) (is_root s.tree n) (control_at s c) =
        record {
          held = old.held;
          start = old.start;
          root_start = old.root_start;
          report = omega (arith, none);
          finish = old.finish;
        } in
        Fits-along
        (stays s h x (one_less (control_at s x)) u step (λ v. v.holds) c (others c ne))
        (stays s h x (one_less (control_at s x)) u step (λ v. v.starts) c (λ k. starts k c))
        refl
        (stays s h x (one_less (control_at s x)) u step (λ v. v.finished) c (λ k. finished k c))
        refl refl (reads-other s h x (one_less (control_at s x)) u step c ne) kept

    report-owned : (y : Name) → IsOwned reported y
    report-owned y =
        by_name x y
        (λ e. subst (IsOwned reported) e
        (owned-busy s h x (one_less (control_at s x)) u step (ap is_under_way waits-word) (ap is_under_way one_less-word)
        holds (λ k. starts k x) (reports-other x apart) (λ k. finished k x)))
        (λ ne. by_name (beside x n) y
        (λ e. subst (IsOwned reported) e child-owned)
        (λ away. owned-other s h x (one_less (control_at s x)) u step y ne (others y ne) (λ k. starts k y)
        (reports-other y away) (λ k. finished k y)))

    -- the child weighs one less, and any other name as before
    weight-paid : (weight reported (beside x n) ≡ 0) × (weight s (beside x n) ≡ 1)
    weight-paid =
        let c : Name = beside x n in
        let ne : x ≡ c → ⊥ = λ e. apart (sym e) in
        let word : control_at s c ≡ Done = owed-report.1 in
        let start : stand s (λ v. v.starts) c ≤ one (is_live s c && is_idle (control_at s c)) =
        (needs.sound.owned.names c).start in
        let none : one (is_live s c && is_idle (control_at s c)) ≡ 0 =
        (λ k. one (is_live s c && is_idle (word k))) ∙ one-and_false (is_live s c) in
        let was : one (is_under_way (control_at s c)) ≡ 0 = ap (λ w. one (is_under_way w)) word in
        let now : one (is_under_way (control_at reported c)) ≡ 0 =
        ap (λ w. one (is_under_way w)) (reads-other s h x (one_less (control_at s x)) u step c ne ∙ word) in
        let starts : stand reported (λ v. v.starts) c ≡ stand s (λ v. v.starts) c =
        stays s h x (one_less (control_at s x)) u step (λ v. v.starts) c (λ k. starts k c) in
        let paid = report-paid in
        let owed : stand s (λ v. v.reports) c ≡ 1 = owed-report.0 in
        (omega (arith, start, none, now, starts, paid), omega (arith, start, none, was, owed))

    weight-same : (y : Name) → (beside x n ≡ y → ⊥) → weight reported y ≡ weight s y
    weight-same y away =
        by_name x y
        (λ e. subst (λ z. weight reported z ≡ weight s z) e
        (weight-stays s h x (one_less (control_at s x)) u step
        (ap is_under_way waits-word ∙ sym (ap is_under_way one_less-word)) x (λ k. starts k x) (reports-other x apart)))
        (λ ne. weight-other s h x (one_less (control_at s x)) u step y ne (λ k. starts k y) (reports-other y away))

    report-counted : Counted reported
    report-counted y =
        by_name x y
        (λ e. subst (λ z. pending (control_at reported z) ≡ owed_below reported z) e
        (let f : ℕ → ℕ = λ m. one (is_child s.tree x.node m) * weight s (beside x m) in
        let g : ℕ → ℕ = λ m. one (is_child s.tree x.node m) * weight reported (beside x m) in
        let m : owed_below reported x + f n ≡ owed_below s x + g n =
        total-moved f g (size s) n (child-within s.tree x.node n needs.child)
        (λ i below ne. times-same (is_child s.tree x.node i) _ _
        (λ child. weight-same (beside x i) (λ e. ne (λ k. (sym e k).node)))) in
        let before : f n ≡ 1 = (λ k. one (needs.child k) * weight-paid.1 k) in
        let later : g n ≡ 0 = (λ k. one (needs.child k) * weight-paid.0 k) in
        let counts : pending (control_at s x) ≡ owed_below s x = needs.sound.counted x in
        let word : pending (control_at reported x) ≡ pending (control_at s x) - 1 =
        ap pending (reads-here s h x (one_less (control_at s x)) u step ∙ one_less-word) in
        omega (arith, m, before, later, counts, word)))
        (λ ne. counted-at s h x (one_less (control_at s x)) u step y
        (ap pending (reads-other s h x (one_less (control_at s x)) u step y ne))
        (λ i child. weight-same (beside y i) (λ e. ne (parent-same s.tree x y n i needs.child child e))))

    report-sound : ((y : Name) → (s.view h).holds y ≤ u.holds y) → Sound reported
    report-sound more =
        sound-put s h x (one_less (control_at s x)) u step report-owned report-counted
        (ap is_idle one_less-word)
        (parent-begun s h x (one_less (control_at s x)) u step (ap is_idle waits-word))
        (λ armed. ap is_under_way one_less-word)
        (λ y on. scan-more s (s.view h) u y step.views (more y)
        (λ i child.
        let away : beside x n ≡ beside y i → ⊥ =
        λ e. leave-other s h x y needs.scans on (parent-same s.tree x y n i needs.child child e) in
        let e : u.reports (beside y i) ≡ (s.view h).reports (beside y i) = reports-other (beside y i) away in
        omega (arith, e)))

  reports-on : pending (control_at s x) == 1 ≡ false → Sound (put s h x (one_less (control_at s x)) (reporting (beside x n) (s.view h)))
  reports-on more =
      let step : IsPut s h x (one_less (control_at s x)) (reporting (beside x n) (s.view h)) = record {
        sound = needs.sound;
        hand = needs.below;
        live = begun-live s x (ap is_idle waits-word);
        views = refl;
      } in
      let many : (pending (control_at s x) ≡ 1) → ⊥ = eqb-false (pending (control_at s x)) 1 more in
      let least = waits in
      let before : is_held (control_at s x) ≡ false =
      ap is_held waits-word ∙ ne_eqb (pending (control_at s x)) 0 (λ e. omega (arith, e, least)) in
      let later : is_held (one_less (control_at s x)) ≡ false =
      ap is_held one_less-word ∙ ne_eqb (pending (control_at s x) - 1) 0 (λ e. many (omega (arith, e, least))) in
      report-sound (reporting (beside x n) (s.view h)) step refl refl refl
      (λ k. (s.view h).holds x + one ((before ∙ sym later) k))
      (λ y ne. refl) (λ y. omega arith)

  reports-last : pending (control_at s x) == 1 ≡ true → Sound (put s h x (one_less (control_at s x)) (reporting_last (beside x n) x (s.view h)))
  reports-last last =
      let v : View = s.view h in
      let step : IsPut s h x (one_less (control_at s x)) (reporting_last (beside x n) x v) = record {
        sound = needs.sound;
        hand = needs.below;
        live = begun-live s x (ap is_idle waits-word);
        views = refl;
      } in
      let single : pending (control_at s x) ≡ 1 = eqb-true (pending (control_at s x)) 1 last in
      let before : one (is_held (control_at s x)) ≡ 0 = (λ k. one (is_held ((waits-word ∙ ap Busy single) k))) in
      let later : one (is_held (one_less (control_at s x))) ≡ 1 =
      (λ k. one (is_held ((one_less-word ∙ ap (λ i. Busy (i - 1)) single) k))) in
      let more : gain x v.holds x ≡ v.holds x + 1 = gain-here x v.holds in
      report-sound (reporting_last (beside x n) x v) step refl refl refl
      (omega (arith, before, later, more))
      (λ y ne. gain-other x y v.holds ne) (λ y. gain-least x y v.holds)

  report-to : Sound (put s h x (one_less (control_at s x))
      (if pending (control_at s x) == 1
      then reporting_last (beside x n) x (s.view h)
      else reporting (beside x n) (s.view h)))
  report-to =
      let last : Bool = pending (control_at s x) == 1 in
      let u : View = reporting_last (beside x n) x (s.view h) in
      let v : View = reporting (beside x n) (s.view h) in
      either last
      (λ t. subst (λ z. Sound (put s h x (one_less (control_at s x)) z)) (sym (cond-true last u v t)) (reports-last t))
      (λ f. subst (λ z. Sound (put s h x (one_less (control_at s x)) z)) (sym (cond-false last u v f)) (reports-on f))

pub sound-report : (s : State) (h : ℕ) (p : Place) → Sound s → h < s.hands →
    may_report s h p ≡ true → Sound (after_report s h p)
sound-report s h p sound below may =
    let c : Name = name_at s p in
    let owes : Bool = nat_le 1 ((s.view h).reports c) in
    let free : ℕ → Bool = λ q. not (is_scanning (s.view h) (Node (name_of s p.block q))) in
    let parts = and_parts (is_place s p) (owes && option_map_or free (parent_of s.tree p.node) false) may in
    let more = and_parts owes (option_map_or free (parent_of s.tree p.node) false) parts.1 in
    let at = map_or-some free (parent_of s.tree p.node) more.1 in
    let x : Name = name_of s p.block at.0 in
    let needs : MayReport s h x p.node = record {
      sound = sound;
      below = below;
      child = parent-child s.tree at.0 p.node at.1;
      owes = leb-true 1 ((s.view h).reports c) more.0;
      scans = not-true (is_scanning (s.view h) (Node x)) at.2;
    } in
    subst (λ o. Sound (option_map_or (λ q. reported_to s h p (name_of s p.block q)) o s)) (sym at.1)
    (report-to s h x p.node needs)
