-- The step begin.
use Rattle.std.proofs.Common.{◌≡◌, ℕ, ◌+◌, ◌-◌, ◌<◌, ◌≤◌, true, nat_le, refl, sym, ap, ◌∙◌, subst, arith}
use Rattle.std.proofs.lemmas.Bool.{and_parts, leb-true}
use Rattle.life_rules.specs.declared.words.ControlWord.TheVariants.{Idle, Busy}
use Rattle.life_rules.specs.declared.event.Name.{Name}
use Rattle.life_rules.specs.declared.event.Place.{Place}
use Rattle.node_tree.specs.Tree.{is_root, is_child}
use Rattle.life_rules.specs.Words.{is_idle, is_held, is_under_way, pending}
use Rattle.life_rules.specs.Views.{View, beside, gain, lose}
use Rattle.common_lemmas.specs.Sums.{one}
use Rattle.life_rules.specs.States.{State, size, is_place, control_at, name_at, stand}
use Rattle.life_rules.specs.LifeSteps.{may_begin, after_begin}
use Rattle.life_rules.specs.Owned.{Fits, IsOwned, weight}
use Rattle.life_rules.specs.Sound.{Sound}
use Rattle.life_rules.proofs.Readings.{lives, stand-at}
use Rattle.life_rules.proofs.Names.{by_name, gain-here, gain-other, lose-here, lose-other}
use Rattle.life_kept.proofs.Fitting.{Fits-along, busy-Fits, idle-word}
use Rattle.life_kept.proofs.Puts.{put, IsPut, reads-here, moves, stays, owned-other, counted-put, sound-put, scan-more}
use Rattle.life_kept.proofs.Holding.{owed-start, weight-most, weight-other}

-- the hand's view of a node that it begins
abbrev beginning : Name → View → View
beginning x v = record v { starts = lose x v.starts; holds = gain x v.holds }

module _ (s : State) (h : ℕ) (x : Name) (sound : Sound s) (below : h < s.hands) (owes : 1 ≤ (s.view h).starts x) where
  begin-put : IsPut s h x (Busy 0) (beginning x (s.view h))
  begin-put = record { sound = sound; hand = below; live = (owed-start s h x sound below owes).live; views = refl }

  idle-fits : Fits (stand s (λ v. v.holds) x) (stand s (λ v. v.starts) x) (stand s (λ v. v.reports) x)
      (stand s (λ v. v.finished) x) true (is_root s.tree x.node) Idle
  idle-fits =
      let start = owed-start s h x sound below owes in
      Fits-along refl refl refl refl (sym start.live) refl (sym start.word) (sound.owned.names x)

  begin-starts : (stand s (λ v. v.starts) x ≡ 1)
      × (stand (put s h x (Busy 0) (beginning x (s.view h))) (λ v. v.starts) x ≡ 0)
  begin-starts =
      let m = moves s h x (Busy 0) (beginning x (s.view h)) begin-put (λ v. v.starts) x in
      let less : lose x (s.view h).starts x ≡ (s.view h).starts x - 1 = lose-here x (s.view h).starts in
      let all : (s.view h).starts x ≤ stand s (λ v. v.starts) x = stand-at s (λ v. v.starts) h x below in
      let most : stand s (λ v. v.starts) x ≤ 1 = idle-fits.start in
      (omega (arith, owes, all, most), omega (arith, owes, all, most, m, less))

  begin-here : IsOwned (put s h x (Busy 0) (beginning x (s.view h))) x
  begin-here =
      let t : State = put s h x (Busy 0) (beginning x (s.view h)) in
      let word : control_at t x ≡ Busy 0 = reads-here s h x (Busy 0) (beginning x (s.view h)) begin-put in
      let now : one (is_held (control_at t x)) ≡ 1 = ap (λ w. one (is_held w)) word in
      let m : stand t (λ v. v.holds) x + (s.view h).holds x ≡ stand s (λ v. v.holds) x + gain x (s.view h).holds x =
      moves s h x (Busy 0) (beginning x (s.view h)) begin-put (λ v. v.holds) x in
      let more : gain x (s.view h).holds x ≡ (s.view h).holds x + 1 = gain-here x (s.view h).holds in
      let none : stand s (λ v. v.holds) x ≡ 0 = idle-fits.held in
      let reports : stand s (λ v. v.reports) x ≤ 0 = idle-fits.report in
      let finished : stand s (λ v. v.finished) x ≡ 0 = idle-fits.finish in
      busy-Fits (ap is_under_way word) (record {
        holds = omega (arith, now, m, more, none);
        starts = begin-starts.1;
        reports = stays s h x (Busy 0) (beginning x (s.view h)) begin-put (λ v. v.reports) x refl ∙ omega (arith, reports);
        finished = stays s h x (Busy 0) (beginning x (s.view h)) begin-put (λ v. v.finished) x refl ∙ finished;
      })

  begin-weight : weight (put s h x (Busy 0) (beginning x (s.view h))) x ≡ weight s x
  begin-weight =
      let t : State = put s h x (Busy 0) (beginning x (s.view h)) in
      let now : one (is_under_way (control_at t x)) ≡ 1 =
      ap (λ w. one (is_under_way w)) (reads-here s h x (Busy 0) (beginning x (s.view h)) begin-put) in
      let was : one (is_under_way (control_at s x)) ≡ 0 =
      ap (λ w. one (is_under_way w)) (owed-start s h x sound below owes).word in
      let before : stand s (λ v. v.starts) x ≡ 1 = begin-starts.0 in
      let later : stand t (λ v. v.starts) x ≡ 0 = begin-starts.1 in
      let reports : stand t (λ v. v.reports) x ≡ stand s (λ v. v.reports) x =
      stays s h x (Busy 0) (beginning x (s.view h)) begin-put (λ v. v.reports) x refl in
      omega (arith, now, was, before, later, reports)

  -- the parent waits for the node, and so isn't idle
  begin-parent : (y : Name) (n : ℕ) → is_idle (control_at s y) ≡ true → is_child s.tree y.node n ≡ true →
      beside y n ≡ x → ⊥
  begin-parent y n idle child e =
      let node : n ≡ x.node = λ k. (e k).node in
      let within : x.node < size s = (lives s x (owed-start s h x sound below owes).live).node in
      let most : weight s (beside y n) ≤ pending (control_at s y) =
      weight-most s y n sound (omega (arith, node, within)) child in
      let none : pending (control_at s y) ≡ 0 = ap pending (idle-word (control_at s y) idle) in
      let start : stand s (λ v. v.starts) (beside y n) ≡ 1 =
      (λ k. stand s (λ v. v.starts) (e k)) ∙ begin-starts.0 in
      absurd (omega (arith, most, none, start))

  begin-sound : Sound (put s h x (Busy 0) (beginning x (s.view h)))
  begin-sound =
      let v : View = s.view h in
      let u : View = beginning x v in
      sound-put s h x (Busy 0) u begin-put
      (λ y. by_name x y
      (λ e. subst (IsOwned (put s h x (Busy 0) u)) e begin-here)
      (λ ne. owned-other s h x (Busy 0) u begin-put y ne (gain-other x y v.holds ne) (lose-other x y v.starts ne) refl refl))
      (counted-put s h x (Busy 0) u begin-put
      (sym (ap pending (owed-start s h x sound below owes).word))
      (λ y n child. by_name x (beside y n)
      (λ e. subst (λ z. weight (put s h x (Busy 0) u) z ≡ weight s z) e begin-weight)
      (λ ne. weight-other s h x (Busy 0) u begin-put (beside y n) ne (lose-other x (beside y n) v.starts ne) refl)))
      refl begin-parent (λ armed. refl)
      (λ y on. scan-more s v u y refl (omega arith) (λ n child. omega arith))

pub sound-begin : (s : State) (h : ℕ) (p : Place) → Sound s → h < s.hands →
    may_begin s h p ≡ true → Sound (after_begin s h p)
sound-begin s h p sound below may =
    let parts = and_parts (is_place s p) (nat_le 1 ((s.view h).starts (name_at s p))) may in
    begin-sound s h (name_at s p) sound below (leb-true 1 ((s.view h).starts (name_at s p)) parts.1)
