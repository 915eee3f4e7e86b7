-- A callback runs at most once a generation: once it has begun to run or was removed, that stays.
use Rattle.std.specs.Prelude.{nat_lt, nat_le, Some, None}
use Rattle.std.specs.Option.{option_map_or}
use Rattle.std.proofs.Common.{◌≡◌, ℕ, ◌+◌, ◌≤◌, Bool, true, false, not, ◌&&◌, ◌||◌, List, refl, sym, ap, ◌∙◌, subst, arith}
use Rattle.std.proofs.lemmas.Bool.{cond-true, cond-false, cond_both, and_parts, and_left, or_from, or_left, both_ways, false≢true, true≢false, false_from_ne_true}
use Rattle.life_rules.specs.declared.event.Name.{Name}
use Rattle.life_rules.specs.declared.event.Place.{Place}
use Rattle.life_rules.specs.declared.event.SourceAt.{SourceAt}
use Rattle.life_rules.specs.declared.event.SourceAt.TheVariants.{Scope as AtScope, At}
use Rattle.life_rules.specs.declared.event.Event.{Event}
use Rattle.life_rules.specs.declared.event.Event.TheVariants.{Claim, Begin, Await, Rest, Take, Finish, Report, Release, Arm, Look, Request, Run, EndRun, Withdraw, WithdrawOwn, SealScan, Skip, Rouse, Enter, MarkUsed, Leave, Close, Join, Seal}
use Rattle.life_rules.specs.declared.words.CallbackPhase.{CallbackPhase}
use Rattle.life_rules.specs.declared.words.CallbackPhase.TheVariants.{Never, Armed, Running, Ran, Removed}
use Rattle.node_tree.specs.Tree.{parent_of}
use Rattle.life_rules.specs.Words.{is_never, is_armed, is_free}
use Rattle.common_lemmas.specs.Sums.{one}
use Rattle.life_rules.specs.Views.{same}
use Rattle.life_rules.specs.States.{State, is_live, is_place, name_of, name_at, phase_at, with_callback}
use Rattle.life_rules.specs.LifeSteps.{reported_to}
use Rattle.life_rules.specs.StopSteps.{may_arm, after_arm}
use Rattle.life_rules.specs.Steps.{Move, is_step, moved, run, may_happen, after}
use Rattle.life_rules.specs.Sound.{Sound}
use Rattle.common_lemmas.proofs.Bool.{either, one-most, one-true, one-false, one-below}
use Rattle.life_rules.proofs.Names.{same-true}
use Rattle.life_rules.proofs.Readings.{read-here}
use Rattle.life_laws.specs.Histories.{times, runs_callback, is_run_of}
use Rattle.life_laws.proofs.Times.{MovesKeep, move-marked, times-marked}
use Rattle.life_laws.proofs.Blocks.{is_over-live}
use Rattle.life_laws.proofs.Marks.{is_marked, passes-written, marked-from, marked-claim, marked-release}

-- the callback has begun to run, or was removed
abbrev pub is_gone : CallbackPhase → Bool
is_gone phase = not (is_never phase || is_armed phase)

-- x's callback won't begin to run at this generation any more
abbrev pub is_spent : State → Name → Bool
is_spent s x = is_marked Never is_gone refl s s.callback x

-- a write of one callback word leaves spent what was
written-spent : (s : State) (p : Place) (w : CallbackPhase) (x : Name) →
    (is_live s (name_at s p) ≡ true → is_gone (s.callback p.block p.node) ≡ true → is_gone w ≡ true) →
    is_spent s x ≡ true → is_spent (with_callback s p.block p.node w) x ≡ true
written-spent s p w x stays =
    marked-from Never is_gone refl s (with_callback s p.block p.node w) s.callback
    (with_callback s p.block p.node w).callback x refl
    (passes-written Never is_gone refl s s.callback p.block p.node w x stays)

-- a step that doesn't begin to run x's callback, and leaves it spent where it was
kept-spent : (s : State) (h : ℕ) (e : Event) (x : Name) → is_run_of s x e ≡ false →
    (is_spent s x ≡ true → is_spent (after s h e) x ≡ true) →
    one (is_run_of s x e) + one (is_spent s x) ≤ one (is_spent (after s h e) x)
kept-spent s h e x other stays =
    omega (arith, one-false other, one-below (is_spent s x) (is_spent (after s h e) x) stays)

armed-here : (phase : CallbackPhase) → is_armed phase ≡ true → is_gone phase ≡ false
armed-here Never a = absurd (false≢true a)
armed-here Armed a = refl
armed-here Running a = absurd (false≢true a)
armed-here Ran a = absurd (false≢true a)
armed-here Removed a = absurd (false≢true a)

armed-live : (s : State) (x : Name) → is_armed (phase_at s x) ≡ true → is_live s x ≡ true
armed-live s x armed =
    either (is_live s x) (λ live. live)
    (λ dead. absurd (true≢false (sym armed ∙ ap is_armed (cond-false (is_live s x) _ _ dead))))

never-ungone : (phase : CallbackPhase) → is_never phase ≡ true → is_gone phase ≡ false
never-ungone Never n = refl
never-ungone Armed n = refl
never-ungone Running n = absurd (false≢true n)
never-ungone Ran n = absurd (false≢true n)
never-ungone Removed n = absurd (false≢true n)

arm-spent : (s : State) (h : ℕ) (p : Place) (x : Name) → may_arm s h p ≡ true →
    is_spent s x ≡ true → is_spent (after_arm s h p) x ≡ true
arm-spent s h p x needs =
    let parts = and_parts (is_place s p) _ needs in
    let view = and_parts (nat_le 1 ((s.view h).holds (name_at s p))) _ parts.1 in
    let never : is_never (phase_at s (name_at s p)) ≡ true =
    (and_parts (is_never (phase_at s (name_at s p))) _ view.1).0 in
    written-spent s p Armed x (λ live gone.
    let read : phase_at s (name_at s p) ≡ s.callback p.block p.node = cond-true (is_live s (name_at s p)) _ _ live in
    absurd (both_ways _ (never-ungone _ never) (ap is_gone read ∙ gone)))

report-spent : (s : State) (h : ℕ) (p : Place) (x : Name) → is_spent s x ≡ true →
    is_spent (after s h (Report p)) x ≡ true
report-spent s h p x spent =
    elim (parent_of s.tree p.node) as (λ o. is_spent (option_map_or (λ q. reported_to s h p (name_of s p.block q)) o s) x ≡ true) [
      | None ↦ spent
      | Some q ↦ spent
    ]

withdraw-spent : (s : State) (h : ℕ) (p : Place) (x : Name) → is_spent s x ≡ true →
    is_spent (after s h (Withdraw p)) x ≡ true
withdraw-spent s h p x spent =
    cond_both (is_armed (phase_at s (name_at s p))) _ _ (λ t. is_spent t x ≡ true)
    (λ armed. written-spent s p Removed x (λ _ _. refl) spent)
    (λ other. spent)

-- the run of an armed place
armed-spent : (s : State) (p : Place) (x : Name) → is_armed (phase_at s (name_at s p)) ≡ true →
    one (same (name_at s p) x && is_armed (phase_at s x)) + one (is_spent s x)
    ≤ one (is_spent (with_callback s p.block p.node Running) x)
armed-spent s p x armed =
    let t : State = with_callback s p.block p.node Running in
    either (same (name_at s p) x)
    (λ here.
    let e : name_at s p ≡ x = same-true _ _ here in
    let at_x : is_armed (phase_at s x) ≡ true = subst (λ y. is_armed (phase_at s y) ≡ true) e armed in
    let live : is_live s (name_at s p) ≡ true = armed-live s (name_at s p) armed in
    let running : phase_at t (name_at s p) ≡ Running =
    read-here s s.callback Never Running (name_at s p) live in
    let now : is_spent t x ≡ true =
    subst (λ y. is_spent t y ≡ true) e (or_left _ _ (ap is_gone running)) in
    let before : is_spent s x ≡ false =
    or_from _ _ (armed-here (phase_at s x) at_x) (is_over-live s x (armed-live s x at_x)) in
    let most = one-most (same (name_at s p) x && is_armed (phase_at s x)) in
    omega (arith, one-false before, one-true now, most))
    (λ there.
    let other : (same (name_at s p) x && is_armed (phase_at s x)) ≡ false = and_left _ _ there in
    let below = one-below (is_spent s x) (is_spent t x)
    (written-spent s p Running x (λ _ _. refl)) in
    omega (arith, one-false other, below))

run-spent : (s : State) (h : ℕ) (at : SourceAt) (p : Place) (x : Name) →
    one (is_run_of s x (Run at p)) + one (is_spent s x) ≤ one (is_spent (after s h (Run at p)) x)
run-spent s h at p x =
    cond_both (is_armed (phase_at s (name_at s p))) _ _
    (λ t. one (same (name_at s p) x && is_armed (phase_at s x)) + one (is_spent s x) ≤ one (is_spent t x))
    (λ armed. armed-spent s p x armed)
    (λ unarmed.
    let other : (same (name_at s p) x && is_armed (phase_at s x)) ≡ false =
    false_from_ne_true _ (λ both.
    let parts = and_parts (same (name_at s p) x) _ both in
    let here : is_armed (phase_at s (name_at s p)) ≡ true =
    subst (λ y. is_armed (phase_at s y) ≡ true) (sym (same-true _ _ parts.0)) parts.1 in
    both_ways _ unarmed here) in
    omega (arith, one-false other))

-- the step of one event
step-spent : (s : State) (h : ℕ) (e : Event) (x : Name) → Sound s → may_happen s h e ≡ true →
    one (is_run_of s x e) + one (is_spent s x) ≤ one (is_spent (after s h e) x)
step-spent s h (Claim b) x sound needs =
    kept-spent s h (Claim b) x refl
    (marked-claim Never is_gone refl s h b s.callback x (and_parts (nat_lt b s.blocks) (is_free (s.block b).state) needs).1)
step-spent s h (Begin p) x sound needs = kept-spent s h (Begin p) x refl (λ k. k)
step-spent s h (Await p ns) x sound needs = kept-spent s h (Await p ns) x refl (λ k. k)
step-spent s h (Rest p to) x sound needs = kept-spent s h (Rest p to) x refl (λ k. k)
step-spent s h (Take p) x sound needs = kept-spent s h (Take p) x refl (λ k. k)
step-spent s h (Finish p) x sound needs = kept-spent s h (Finish p) x refl (λ k. k)
step-spent s h (Report p) x sound needs = kept-spent s h (Report p) x refl (report-spent s h p x)
step-spent s h (Release b) x sound needs = kept-spent s h (Release b) x refl (marked-release Never is_gone refl s h b s.callback x)
step-spent s h (Arm p) x sound needs = kept-spent s h (Arm p) x refl (arm-spent s h p x needs)
step-spent s h (Look source None) x sound needs = kept-spent s h (Look source None) x refl (λ k. k)
step-spent s h (Look source (Some p)) x sound needs = kept-spent s h (Look source (Some p)) x refl (λ k. k)
step-spent s h (Request AtScope failure) x sound needs = kept-spent s h (Request AtScope failure) x refl (λ k. k)
step-spent s h (Request (At p) failure) x sound needs = kept-spent s h (Request (At p) failure) x refl (λ k. k)
step-spent s h (Run source p) x sound needs = run-spent s h source p x
step-spent s h (EndRun p) x sound needs =
    kept-spent s h (EndRun p) x refl
    (written-spent s p Ran x (λ _ _. refl))
step-spent s h (Withdraw p) x sound needs = kept-spent s h (Withdraw p) x refl (withdraw-spent s h p x)
step-spent s h (WithdrawOwn p) x sound needs =
    kept-spent s h (WithdrawOwn p) x refl
    (written-spent s p Removed x (λ _ _. refl))
step-spent s h (SealScan AtScope) x sound needs = kept-spent s h (SealScan AtScope) x refl (λ k. k)
step-spent s h (SealScan (At p)) x sound needs = kept-spent s h (SealScan (At p)) x refl (λ k. k)
step-spent s h (Skip b) x sound needs = kept-spent s h (Skip b) x refl (λ k. k)
step-spent s h (Rouse p) x sound needs = kept-spent s h (Rouse p) x refl (λ k. k)
step-spent s h Enter x sound needs = kept-spent s h Enter x refl (λ k. k)
step-spent s h MarkUsed x sound needs = kept-spent s h MarkUsed x refl (λ k. k)
step-spent s h Leave x sound needs = kept-spent s h Leave x refl (λ k. k)
step-spent s h Close x sound needs = kept-spent s h Close x refl (λ k. k)
step-spent s h Join x sound needs = kept-spent s h Join x refl (λ k. k)
step-spent s h (Seal expected) x sound needs = kept-spent s h (Seal expected) x refl (λ k. k)

-- one move, whether it is a step or not
move-spent : (x : Name) (s : State) (m : Move) → Sound s →
    one (is_step s m && runs_callback x s m) + one (is_spent s x) ≤ one (is_spent (moved s m) x)
move-spent x s m sound =
    move-marked (runs_callback x s m) (λ t. is_spent t x) s m
    (λ l needs. step-spent s m.hand m.event x sound needs)

-- a callback begins to run at most once a generation, and never once it is spent
pub callbacks-once : MovesKeep → (x : Name) (ms : List Move) (s : State) → Sound s →
    times (runs_callback x) ms s + one (is_spent s x) ≤ 1
callbacks-once law x ms s sound =
    let marked = times-marked law (runs_callback x) (λ t. is_spent t x) (move-spent x) ms s sound in
    omega (arith, marked, one-most (is_spent (run ms s) x))
