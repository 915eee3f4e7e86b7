-- A node is done at most once a generation, and stays done.
use Rattle.std.specs.Prelude.{nat_lt, nat_le, length, Some, None}
use Rattle.std.specs.List.{list_all}
use Rattle.std.specs.Option.{option_map_or}
use Rattle.std.proofs.Common.{◌≡◌, ℕ, ◌+◌, ◌<◌, ◌≤◌, Bool, true, false, not, ◌&&◌, ◌||◌, List, refl, ap, ◌∙◌, subst, inl, inr, arith}
use Rattle.std.proofs.lemmas.Bool.{cond-true, cond_both, and_parts, or_cases, or_from, or_left, both_ways, false≢true, leb-true}
use Rattle.life_rules.specs.declared.event.Name.{Name}
use Rattle.life_rules.specs.declared.event.Place.{Place}
use Rattle.life_rules.specs.declared.event.SourceAt.TheVariants.{Scope as AtScope, At}
use Rattle.life_rules.specs.declared.event.Event.{Event}
use Rattle.life_rules.specs.declared.event.Event.TheVariants.{Claim, Begin, Await, Rest, Take, Finish, Report, Release, Arm, Look, Request, Run, EndRun, Withdraw, WithdrawOwn, SealScan, Skip, Rouse, Enter, MarkUsed, Leave, Close, Join, Seal}
use Rattle.life_rules.specs.declared.words.ControlWord.{ControlWord}
use Rattle.life_rules.specs.declared.words.ControlWord.TheVariants.{Idle, Busy, ReadyLoop, ReadyPool, Parked, Done}
use Rattle.node_tree.specs.Tree.{parent_of}
use Rattle.life_rules.specs.Words.{is_idle, is_held, is_done, is_parked, is_armed, is_running, may_be_taken, one_less}
use Rattle.common_lemmas.specs.Sums.{one}
use Rattle.life_rules.specs.Views.{same}
use Rattle.life_rules.specs.States.{State, is_live, is_place, name_of, name_at, control_at, phase_at, with_control}
use Rattle.life_rules.specs.LifeSteps.{may_leave_node, may_be_awaited, reported_to}
use Rattle.common_lemmas.specs.Lists.{are_different}
use Rattle.life_rules.specs.Steps.{Move, is_step, moved, run, may_happen, after}
use Rattle.life_rules.specs.Sound.{Sound}
use Rattle.common_lemmas.proofs.Bool.{either, one-is, one-most, one-true, one-false, one-below}
use Rattle.life_rules.proofs.Names.{same-true}
use Rattle.life_rules.proofs.Readings.{begun-live, stand-at, read-here}
use Rattle.life_laws.specs.Histories.{times, finishes, is_finish_of, is_over}
use Rattle.life_laws.proofs.Times.{MovesKeep, move-marked, times-marked}
use Rattle.life_laws.proofs.Blocks.{is_over-live}
use Rattle.life_laws.proofs.Marks.{is_marked, passes-written, marked-from, marked-claim, marked-release}

-- x is done, or its generation is over
abbrev pub is_ended : State → Name → Bool
is_ended s x = is_marked Idle is_done refl s s.control x

-- a step that isn't a finish of x, and leaves it ended where it was
kept-ended : (s : State) (h : ℕ) (e : Event) (x : Name) → is_finish_of s x e ≡ false →
    (is_ended s x ≡ true → is_ended (after s h e) x ≡ true) →
    one (is_finish_of s x e) + one (is_ended s x) ≤ one (is_ended (after s h e) x)
kept-ended s h e x other stays =
    omega (arith, one-false other, one-below (is_ended s x) (is_ended (after s h e) x) stays)

-- a write of one control word leaves ended what was
written-ended : (s : State) (b n : ℕ) (w : ControlWord) (x : Name) →
    (is_live s (name_of s b n) ≡ true → is_done (s.control b n) ≡ true → is_done w ≡ true) →
    is_ended s x ≡ true → is_ended (with_control s b n w) x ≡ true
written-ended s b n w x stays =
    marked-from Idle is_done refl s (with_control s b n w) s.control (with_control s b n w).control x refl
    (passes-written Idle is_done refl s s.control b n w x stays)

held-undone : (w : ControlWord) → is_held w ≡ true → is_done w ≡ false
held-undone Idle h = refl
held-undone (Busy n) h = refl
held-undone ReadyLoop h = refl
held-undone ReadyPool h = refl
held-undone Parked h = refl
held-undone Done h = absurd (false≢true h)

held-begun : (w : ControlWord) → is_held w ≡ true → is_idle w ≡ false
held-begun Idle h = absurd (false≢true h)
held-begun (Busy n) h = refl
held-begun ReadyLoop h = absurd (false≢true h)
held-begun ReadyPool h = absurd (false≢true h)
held-begun Parked h = absurd (false≢true h)
held-begun Done h = absurd (false≢true h)

idle-undone : (w : ControlWord) → is_idle w ≡ true → is_done w ≡ false
idle-undone Idle h = refl
idle-undone (Busy n) h = refl
idle-undone ReadyLoop h = refl
idle-undone ReadyPool h = refl
idle-undone Parked h = refl
idle-undone Done h = absurd (false≢true h)

taken-undone : (w : ControlWord) (h : ℕ) → may_be_taken w h ≡ true → is_done w ≡ false
taken-undone Idle h t = refl
taken-undone (Busy n) h t = refl
taken-undone ReadyLoop h t = refl
taken-undone ReadyPool h t = refl
taken-undone Parked h t = refl
taken-undone Done h t = absurd (false≢true t)

parked-undone : (w : ControlWord) → is_parked w ≡ true → is_done w ≡ false
parked-undone Idle t = refl
parked-undone (Busy n) t = refl
parked-undone ReadyLoop t = refl
parked-undone ReadyPool t = refl
parked-undone Parked t = refl
parked-undone Done t = absurd (false≢true t)

one_less-done : (w : ControlWord) → is_done w ≡ true → is_done (one_less w) ≡ true
one_less-done Idle d = d
one_less-done (Busy n) d = d
one_less-done ReadyLoop d = d
one_less-done ReadyPool d = d
one_less-done Parked d = d
one_less-done Done d = d

-- a write to a node that doesn't read as done
undone-ended : (s : State) (p : Place) (w : ControlWord) (x : Name) →
    is_done (control_at s (name_at s p)) ≡ false →
    is_ended s x ≡ true → is_ended (with_control s p.block p.node w) x ≡ true
undone-ended s p w x undone =
    written-ended s p.block p.node w x (λ live done.
    let read : control_at s (name_at s p) ≡ s.control p.block p.node =
    cond-true (is_live s (name_at s p)) _ _ live in
    absurd (both_ways _ undone (ap is_done read ∙ done)))

report-ended : (s : State) (h : ℕ) (p : Place) (x : Name) → is_ended s x ≡ true →
    is_ended (after s h (Report p)) x ≡ true
report-ended s h p x ended =
    elim (parent_of s.tree p.node)
    as (λ o. is_ended (option_map_or (λ q. reported_to s h p (name_of s p.block q)) o s) x ≡ true) [
      | None ↦ ended
      | Some q ↦
          let y : Name = name_of s p.block q in
          written-ended s y.block y.node (one_less (control_at s y)) x
          (λ live done.
          let read : control_at s y ≡ s.control y.block y.node = cond-true (is_live s y) _ _ live in
          one_less-done _ (ap is_done read ∙ done))
          ended
    ]

module _ (s : State) (h : ℕ) (sound : Sound s) (l : h < s.hands) where
  held-by : (x : Name) → nat_le 1 ((s.view h).holds x) ≡ true → is_held (control_at s x) ≡ true
  held-by x has =
      let some : 1 ≤ (s.view h).holds x = leb-true _ _ has in
      let most = stand-at s (λ v. v.holds) h x l in
      let fits = (sound.owned.names x).held in
      one-is (omega (arith, some, most, fits))

  -- a write to a node that the hand holds
  held-ended : (p : Place) (w : ControlWord) (x : Name) →
      nat_le 1 ((s.view h).holds (name_at s p)) ≡ true →
      is_ended s x ≡ true → is_ended (with_control s p.block p.node w) x ≡ true
  held-ended p w x has = undone-ended s p w x (held-undone _ (held-by (name_at s p) has))

  begin-ended : (p : Place) (x : Name) → nat_le 1 ((s.view h).starts (name_at s p)) ≡ true →
      is_ended s x ≡ true → is_ended (with_control s p.block p.node (Busy 0)) x ≡ true
  begin-ended p x owes =
      let y : Name = name_at s p in
      let some : 1 ≤ (s.view h).starts y = leb-true _ _ owes in
      let most = stand-at s (λ v. v.starts) h y l in
      let fits = (sound.owned.names y).start in
      let both : (is_live s y && is_idle (control_at s y)) ≡ true = one-is (omega (arith, some, most, fits)) in
      undone-ended s p (Busy 0) x (idle-undone _ (and_parts (is_live s y) _ both).1)

  finish-ended : (p : Place) (x : Name) → nat_le 1 ((s.view h).holds (name_at s p)) ≡ true →
      one (same (name_at s p) x) + one (is_ended s x)
      ≤ one (is_ended (with_control s p.block p.node Done) x)
  finish-ended p x has =
      let t : State = with_control s p.block p.node Done in
      let y : Name = name_at s p in
      let live : is_live s y ≡ true = begun-live s y (held-begun _ (held-by y has)) in
      either (same y x)
      (λ here.
      let e : y ≡ x = same-true _ _ here in
      let undone : is_ended s y ≡ false =
      or_from _ _ (held-undone _ (held-by y has)) (is_over-live s y live) in
      let now : is_ended t y ≡ true =
      or_left _ _ (ap is_done (read-here s s.control Idle Done y live)) in
      let before : is_ended s x ≡ false = subst (λ z. is_ended s z ≡ false) e undone in
      let after_it : is_ended t x ≡ true = subst (λ z. is_ended t z ≡ true) e now in
      omega (arith, one-false before, one-true after_it, one-most (same y x)))
      (λ there.
      let below = one-below (is_ended s x) (is_ended t x) (held-ended p Done x has) in
      omega (arith, one-false there, below))

  -- the hand's needs at a place, one by one
  holds-place : (p : Place) (rest : Bool) → (is_place s p && (may_leave_node (s.view h) (name_at s p) && rest)) ≡ true →
      nat_le 1 ((s.view h).holds (name_at s p)) ≡ true
  holds-place p rest needs =
      let parts = and_parts (is_place s p) _ needs in
      let leaves = and_parts (may_leave_node (s.view h) (name_at s p)) rest parts.1 in
      (and_parts (nat_le 1 ((s.view h).holds (name_at s p))) _ leaves.0).0

  step-ended : (e : Event) (x : Name) → may_happen s h e ≡ true →
      one (is_finish_of s x e) + one (is_ended s x) ≤ one (is_ended (after s h e) x)
  step-ended (Claim b) x needs =
      kept-ended s h (Claim b) x refl
      (marked-claim Idle is_done refl s h b s.control x (and_parts (nat_lt b s.blocks) _ needs).1)
  step-ended (Begin p) x needs =
      kept-ended s h (Begin p) x refl (begin-ended p x (and_parts (is_place s p) _ needs).1)
  step-ended (Await p ns) x needs =
      kept-ended s h (Await p ns) x refl (held-ended p _ x (holds-place p (nat_le 1 (length ns) && (are_different ns && list_all (may_be_awaited s (name_at s p)) ns)) needs))
  step-ended (Rest p to) x needs =
      let parts = and_parts (is_place s p) _ needs in
      kept-ended s h (Rest p to) x refl
      (held-ended p _ x (and_parts (nat_le 1 ((s.view h).holds (name_at s p))) _ parts.1).0)
  step-ended (Take p) x needs =
      kept-ended s h (Take p) x refl
      (undone-ended s p (Busy 0) x (taken-undone _ h (and_parts (is_place s p) _ needs).1))
  step-ended (Finish p) x needs =
      finish-ended p x (holds-place p (not (is_armed (phase_at s (name_at s p)) || is_running (phase_at s (name_at s p)))) needs)
  step-ended (Report p) x needs = kept-ended s h (Report p) x refl (report-ended s h p x)
  step-ended (Release b) x needs =
      kept-ended s h (Release b) x refl (marked-release Idle is_done refl s h b s.control x)
  step-ended (Arm p) x needs = kept-ended s h (Arm p) x refl (λ k. k)
  step-ended (Look source None) x needs = kept-ended s h (Look source None) x refl (λ k. k)
  step-ended (Look source (Some p)) x needs = kept-ended s h (Look source (Some p)) x refl (λ k. k)
  step-ended (Request AtScope failure) x needs = kept-ended s h (Request AtScope failure) x refl (λ k. k)
  step-ended (Request (At p) failure) x needs = kept-ended s h (Request (At p) failure) x refl (λ k. k)
  step-ended (Run source p) x needs =
      kept-ended s h (Run source p) x refl (λ k.
      cond_both (is_armed (phase_at s (name_at s p))) _ _ (λ t. is_ended t x ≡ true) (λ _. k) (λ _. k))
  step-ended (EndRun p) x needs = kept-ended s h (EndRun p) x refl (λ k. k)
  step-ended (Withdraw p) x needs =
      kept-ended s h (Withdraw p) x refl (λ k.
      cond_both (is_armed (phase_at s (name_at s p))) _ _ (λ t. is_ended t x ≡ true) (λ _. k) (λ _. k))
  step-ended (WithdrawOwn p) x needs = kept-ended s h (WithdrawOwn p) x refl (λ k. k)
  step-ended (SealScan AtScope) x needs = kept-ended s h (SealScan AtScope) x refl (λ k. k)
  step-ended (SealScan (At p)) x needs = kept-ended s h (SealScan (At p)) x refl (λ k. k)
  step-ended (Skip b) x needs = kept-ended s h (Skip b) x refl (λ k. k)
  step-ended (Rouse p) x needs =
      let parts = and_parts (is_place s p) _ needs in
      let parked = (and_parts (is_parked (control_at s (name_at s p))) _ parts.1).0 in
      kept-ended s h (Rouse p) x refl (undone-ended s p ReadyLoop x (parked-undone _ parked))
  step-ended Enter x needs = kept-ended s h Enter x refl (λ k. k)
  step-ended MarkUsed x needs = kept-ended s h MarkUsed x refl (λ k. k)
  step-ended Leave x needs = kept-ended s h Leave x refl (λ k. k)
  step-ended Close x needs = kept-ended s h Close x refl (λ k. k)
  step-ended Join x needs = kept-ended s h Join x refl (λ k. k)
  step-ended (Seal expected) x needs = kept-ended s h (Seal expected) x refl (λ k. k)

-- one move, whether it is a step or not
move-ended : (x : Name) (s : State) (m : Move) → Sound s →
    one (is_step s m && finishes x s m) + one (is_ended s x) ≤ one (is_ended (moved s m) x)
move-ended x s m sound =
    move-marked (finishes x s m) (λ t. is_ended t x) s m
    (λ l needs. step-ended s m.hand sound l m.event x needs)

-- a node is finished at most once a generation, and never once it is done
pub endings-once : MovesKeep → (x : Name) (ms : List Move) (s : State) → Sound s →
    times (finishes x) ms s + one (is_ended s x) ≤ 1
endings-once law x ms s sound =
    let marked = times-marked law (finishes x) (λ t. is_ended t x) (move-ended x) ms s sound in
    omega (arith, marked, one-most (is_ended (run ms s) x))

-- what is done stays done while its generation lasts
pub done-stays : MovesKeep → (x : Name) (ms : List Move) (s : State) → Sound s →
    is_done (control_at s x) ≡ true → is_live (run ms s) x ≡ true →
    is_done (control_at (run ms s) x) ≡ true
done-stays law x ms s sound done live =
    let marked = times-marked law (finishes x) (λ t. is_ended t x) (move-ended x) ms s sound in
    let before : is_ended s x ≡ true = or_left _ _ done in
    let now : is_ended (run ms s) x ≡ true = one-is (omega (arith, marked, one-true before)) in
    elim (or_cases (is_done (control_at (run ms s) x)) (is_over (run ms s) x) now) [
      | inl stays ↦ stays
      | inr over ↦ absurd (both_ways _ (is_over-live (run ms s) x live) over)
    ]
