-- Associations are neither lost nor made up: those that entered are those that left and those that stand.
use Rattle.std.specs.Prelude.{◌==◌, if◌then◌else◌, nat_lt, nat_le, Some, None}
use Rattle.std.specs.Option.{option_map_or}
use Rattle.std.proofs.Common.{◌≡◌, ℕ, ◌+◌, ◌-◌, ◌<◌, ◌≤◌, true, false, not, ◌&&◌, List, [], ◌∷◌, refl, sym, ap, ◌∙◌, arith}
use Rattle.std.proofs.lemmas.Bool.{cond-true, cond-false, cond_both, and_parts, eqb-true, eq-eqb, ne_eqb, leb-true, leb-false, ltb-true}
use Rattle.life_rules.specs.declared.event.Name.{Name}
use Rattle.life_rules.specs.declared.event.Place.{Place}
use Rattle.life_rules.specs.declared.event.SourceAt.TheVariants.{Scope as AtScope, At}
use Rattle.life_rules.specs.declared.event.Event.{Event}
use Rattle.life_rules.specs.declared.event.Event.TheVariants.{Claim, Begin, Await, Rest, Take, Finish, Report, Release, Arm, Look, Request, Run, EndRun, Withdraw, WithdrawOwn, SealScan, Skip, Rouse, Enter, MarkUsed, Leave, Close, Join, Seal}
use Rattle.node_tree.specs.Tree.{parent_of, is_root}
use Rattle.life_rules.specs.Words.{is_armed, pending}
use Rattle.life_rules.specs.Scopes.{is_refused}
use Rattle.life_rules.specs.Views.{View, lose}
use Rattle.common_lemmas.specs.Sums.{one}
use Rattle.life_rules.specs.States.{State, name_of, name_at, control_at, phase_at, nearest_of, with_view}
use Rattle.common_lemmas.specs.Sums.{total}
use Rattle.life_rules.specs.LifeSteps.{root_of, reported_to}
use Rattle.life_rules.specs.StopSteps.{passed, run_over}
use Rattle.life_rules.specs.ScopeSteps.{entered, left}
use Rattle.life_rules.specs.Steps.{Move, is_step, moved, run, may_happen, after}
use Rattle.life_rules.specs.Associations.{kept}
use Rattle.common_lemmas.proofs.Bool.{either, one-true, one-false}
use Rattle.common_lemmas.proofs.Totals.{total-same}
use Rattle.scope_kept.proofs.Counts.{all_kept}
use Rattle.life_rules.proofs.Readings.{total-with_view}
use Rattle.life_laws.specs.Histories.{times, enters, leaves, is_entry, is_exit}

-- a step that enters and leaves nothing, and keeps the associations of each view
kept-alike : (s : State) (h : ℕ) (e : Event) → is_entry s e ≡ false → is_exit s h e ≡ false →
    ((i : ℕ) → kept ((after s h e).view i) ≡ kept (s.view i)) → (after s h e).hands ≡ s.hands →
    one (is_entry s e) + all_kept s ≡ one (is_exit s h e) + all_kept (after s h e)
kept-alike s h e no_entry no_exit views hands =
    let same : total (λ i. kept ((after s h e).view i)) s.hands ≡ all_kept s =
    total-same _ _ s.hands (λ i _. views i) in
    let all : all_kept (after s h e) ≡ total (λ i. kept ((after s h e).view i)) s.hands =
    ap (λ n. total (λ i. kept ((after s h e).view i)) n) hands in
    omega (arith, one-false no_entry, one-false no_exit, same, all)

-- each view's associations, after one view changed in other ways
kept-view : (s : State) (h : ℕ) (v : View) → kept v ≡ kept (s.view h) →
    (i : ℕ) → kept (if i == h then v else s.view i) ≡ kept (s.view i)
kept-view s h v same i =
    either (i == h)
    (λ here. ap kept (cond-true (i == h) v (s.view i) here) ∙ same
    ∙ ap (λ j. kept (s.view j)) (sym (eqb-true i h here)))
    (λ there. ap kept (cond-false (i == h) v (s.view i) there))

-- the numbers of one view's associations move, and all others stay
moved-kept : (s : State) (h : ℕ) (v : View) → h < s.hands →
    all_kept (with_view s h v) + kept (s.view h) ≡ all_kept s + kept v
moved-kept s h v l = total-with_view s h v kept l

reported-kept : (s : State) (h : ℕ) (p : Place) (i : ℕ) →
    kept ((after s h (Report p)).view i) ≡ kept (s.view i)
reported-kept s h p i =
    elim (parent_of s.tree p.node)
    as (λ o. kept ((option_map_or (λ q. reported_to s h p (name_of s p.block q)) o s).view i) ≡ kept (s.view i)) [
      | None ↦ refl
      | Some q ↦ kept-view s h _
          (cond_both (pending (control_at s (name_of s p.block q)) == 1) _ _ (λ v. kept v ≡ kept (s.view h))
          (λ _. refl) (λ _. refl)) i
    ]

reported-hands : (s : State) (h : ℕ) (p : Place) → (after s h (Report p)).hands ≡ s.hands
reported-hands s h p =
    elim (parent_of s.tree p.node)
    as (λ o. (option_map_or (λ q. reported_to s h p (name_of s p.block q)) o s).hands ≡ s.hands) [
      | None ↦ refl
      | Some q ↦ refl
    ]

over-kept : (s : State) (x : Name) (v : View) → kept (run_over s x v) ≡ kept v
over-kept s x v =
    elim (nearest_of s x)
    as (λ o. kept (option_map_or (λ source. passed s source x (record v { runs = lose x v.runs })) o
    (record v { runs = lose x v.runs })) ≡ kept v) [
      | None ↦ refl
      | Some source ↦ refl
    ]

step-memberships : (s : State) (h : ℕ) (e : Event) → h < s.hands → may_happen s h e ≡ true →
    one (is_entry s e) + all_kept s ≡ one (is_exit s h e) + all_kept (after s h e)
step-memberships s h (Claim b) l needs = kept-alike s h (Claim b) refl refl (kept-view s h _ refl) refl
step-memberships s h (Begin p) l needs = kept-alike s h (Begin p) refl refl (kept-view s h _ refl) refl
step-memberships s h (Await p ns) l needs = kept-alike s h (Await p ns) refl refl (kept-view s h _ refl) refl
step-memberships s h (Rest p to) l needs = kept-alike s h (Rest p to) refl refl (kept-view s h _ refl) refl
step-memberships s h (Take p) l needs = kept-alike s h (Take p) refl refl (kept-view s h _ refl) refl
step-memberships s h (Finish p) l needs =
    kept-alike s h (Finish p) refl refl
    (kept-view s h _ (cond_both (is_root s.tree p.node) _ _ (λ v. kept v ≡ kept (s.view h)) (λ _. refl) (λ _. refl))) refl
step-memberships s h (Report p) l needs =
    kept-alike s h (Report p) refl refl (reported-kept s h p) (reported-hands s h p)
step-memberships s h (Release b) l needs =
    let v = s.view h in
    kept-alike s h (Release b) refl refl
    (kept-view s h (record v { finished = lose (root_of s b) v.finished }) refl) refl
step-memberships s h (Arm p) l needs = kept-alike s h (Arm p) refl refl (kept-view s h _ refl) refl
step-memberships s h (Look source None) l needs = kept-alike s h (Look source None) refl refl (kept-view s h _ refl) refl
step-memberships s h (Look source (Some p)) l needs = kept-alike s h (Look source (Some p)) refl refl (kept-view s h _ refl) refl
step-memberships s h (Request AtScope failure) l needs = kept-alike s h (Request AtScope failure) refl refl (kept-view s h _ refl) refl
step-memberships s h (Request (At p) failure) l needs = kept-alike s h (Request (At p) failure) refl refl (kept-view s h _ refl) refl
step-memberships s h (Run source p) l needs =
    kept-alike s h (Run source p) refl refl
    (λ i. cond_both {A = State} (is_armed (phase_at s (name_at s p))) _ _ (λ t. kept (t.view i) ≡ kept (s.view i))
    (λ _. kept-view s h _ refl i) (λ _. kept-view s h _ refl i))
    (cond_both {A = State} (is_armed (phase_at s (name_at s p))) _ _ (λ t. t.hands ≡ s.hands) (λ _. refl) (λ _. refl))
step-memberships s h (EndRun p) l needs =
    kept-alike s h (EndRun p) refl refl (kept-view s h _ (over-kept s (name_at s p) (s.view h))) refl
step-memberships s h (Withdraw p) l needs =
    kept-alike s h (Withdraw p) refl refl
    (λ i. cond_both {A = State} (is_armed (phase_at s (name_at s p))) _ _ (λ t. kept (t.view i) ≡ kept (s.view i))
    (λ _. refl) (λ _. kept-view s h _ refl i))
    (cond_both {A = State} (is_armed (phase_at s (name_at s p))) _ _ (λ t. t.hands ≡ s.hands) (λ _. refl) (λ _. refl))
step-memberships s h (WithdrawOwn p) l needs =
    kept-alike s h (WithdrawOwn p) refl refl (kept-view s h _ (over-kept s (name_at s p) (s.view h))) refl
step-memberships s h (SealScan AtScope) l needs = kept-alike s h (SealScan AtScope) refl refl (kept-view s h _ refl) refl
step-memberships s h (SealScan (At p)) l needs = kept-alike s h (SealScan (At p)) refl refl (kept-view s h _ refl) refl
step-memberships s h (Skip b) l needs = kept-alike s h (Skip b) refl refl (kept-view s h _ refl) refl
step-memberships s h (Rouse p) l needs = kept-alike s h (Rouse p) refl refl (λ _. refl) refl
step-memberships s h Enter l needs =
    let v = s.view h in
    let sums = moved-kept s h (entered s.scope s.most v) l in
    either (is_refused s.scope s.most)
    (λ refuses.
    let e : kept (entered s.scope s.most v) ≡ kept v =
    ap kept (cond-true (is_refused s.scope s.most) _ _ refuses) in
    let no_entry : one (is_entry s Enter) ≡ 0 = ap (λ b. one (not b)) refuses in
    omega (arith, sums, e, no_entry))
    (λ accepts.
    let e : kept (entered s.scope s.most v) ≡ kept v + 1 =
    ap kept (cond-false (is_refused s.scope s.most) _ _ accepts)
    ∙ cond_both s.scope.used _ _ (λ u. kept u ≡ kept v + 1) (λ _. omega arith) (λ _. omega arith) in
    let entry : one (is_entry s Enter) ≡ 1 = ap (λ b. one (not b)) accepts in
    omega (arith, sums, e, entry))
step-memberships s h MarkUsed l needs =
    let some : 1 ≤ (s.view h).making = leb-true _ _ needs in
    let v = s.view h in
    let sums = moved-kept s h (record v { making = v.making - 1; made = v.made + 1 }) l in
    omega (arith, sums, some)
step-memberships s h Leave l needs =
    let some : 1 ≤ (s.view h).made + (s.view h).refused = leb-true _ _ needs in
    let v = s.view h in
    let sums = moved-kept s h (left v) l in
    either (nat_le 1 v.refused)
    (λ refused.
    let e : kept (left v) ≡ kept v = ap kept (cond-true (nat_le 1 v.refused) _ _ refused) in
    let more : 1 ≤ v.refused = leb-true _ _ refused in
    let other : (v.refused == 0) ≡ false = ne_eqb _ _ (λ z. absurd (omega arith)) in
    omega (arith, sums, e, one-false other))
    (λ made.
    let e : kept (left v) ≡ (v.made - 1) + v.making =
    ap kept (cond-false (nat_le 1 v.refused) _ _ made) in
    let none : v.refused < 1 = leb-false _ _ made in
    let exit : (v.refused == 0) ≡ true = eq-eqb _ _ (omega arith) in
    omega (arith, sums, e, some, none, one-true exit))
step-memberships s h Close l needs = kept-alike s h Close refl refl (λ _. refl) refl
step-memberships s h Join l needs = kept-alike s h Join refl refl (λ _. refl) refl
step-memberships s h (Seal expected) l needs = kept-alike s h (Seal expected) refl refl (λ _. refl) refl

-- one move, whether it is a step or not
move-memberships : (s : State) (m : Move) →
    one (is_step s m && enters s m) + all_kept s ≡ one (is_step s m && leaves s m) + all_kept (moved s m)
move-memberships s m =
    either (is_step s m)
    (λ step.
    let parts = and_parts (nat_lt m.hand s.hands) _ step in
    let here = step-memberships s m.hand m.event (ltb-true _ _ parts.0) parts.1 in
    let now : all_kept (moved s m) ≡ all_kept (after s m.hand m.event) =
    ap all_kept (cond-true (is_step s m) _ _ step) in
    let enter : one (is_step s m && enters s m) ≡ one (enters s m) = ap (λ b. one (b && enters s m)) step in
    let leave : one (is_step s m && leaves s m) ≡ one (leaves s m) = ap (λ b. one (b && leaves s m)) step in
    omega (arith, here, now, enter, leave))
    (λ other.
    let now : all_kept (moved s m) ≡ all_kept s = ap all_kept (cond-false (is_step s m) _ _ other) in
    let enter : one (is_step s m && enters s m) ≡ 0 = ap (λ b. one (b && enters s m)) other in
    let leave : one (is_step s m && leaves s m) ≡ 0 = ap (λ b. one (b && leaves s m)) other in
    omega (arith, now, enter, leave))

-- those that entered, and those that stood at first, are those that left and those that stand at last
pub memberships-balance : (ms : List Move) (s : State) →
    times enters ms s + all_kept s ≡ times leaves ms s + all_kept (run ms s)
memberships-balance [] s = refl
memberships-balance (m ∷ ms) s =
    let here = move-memberships s m in
    let rest = memberships-balance ms (moved s m) in
    omega (arith, here, rest)
