-- What a sound state tells at once.
use Rattle.std.specs.Prelude.{nat_le}
use Rattle.std.proofs.Common.{◌≡◌, ℕ, ◌+◌, ◌*◌, ◌<◌, ◌≤◌, Bool, true, false, not, ◌||◌, refl, sym, ap₂, ◌∙◌, subst, inl, inr, arith}
use Rattle.std.proofs.lemmas.Bool.{and_parts, leb-true, eqb-true, cases_Bool}
use Rattle.life_rules.specs.declared.event.Name.{Name}
use Rattle.life_rules.specs.declared.event.Place.{Place}
use Rattle.life_rules.specs.declared.words.ControlWord.{ControlWord}
use Rattle.life_rules.specs.declared.words.ControlWord.TheVariants.{Idle, Busy, ReadyLoop, ReadyPool, Parked, Done}
use Rattle.node_tree.specs.Tree.{is_child}
use Rattle.life_rules.specs.Words.{is_idle, is_held, is_done, is_under_way, pending, is_armed, is_running}
use Rattle.common_lemmas.specs.Sums.{one}
use Rattle.life_rules.specs.Views.{beside}
use Rattle.life_rules.specs.States.{State, size, is_place, name_at, control_at, phase_at, stand}
use Rattle.life_rules.specs.LifeSteps.{may_finish, may_leave_node}
use Rattle.life_rules.specs.Owned.{weight, owed_below}
use Rattle.life_rules.specs.Sound.{Sound}
use Rattle.common_lemmas.proofs.Bool.{one-is, one-true}
use Rattle.common_lemmas.proofs.Totals.{total-at, total-most, total-ones}
use Rattle.life_rules.proofs.Readings.{stand-at}
use Rattle.scope_kept.proofs.Counts.{all_refused, count-parts}

held-none : (w : ControlWord) → is_held w ≡ true → pending w ≡ 0
held-none Idle h = refl
held-none (Busy n) h = eqb-true n 0 h
held-none ReadyLoop h = refl
held-none ReadyPool h = refl
held-none Parked h = refl
held-none Done h = refl

begun-done : (w : ControlWord) → is_idle w ≡ false → one (is_under_way w) ≡ 0 → is_done w ≡ true
begun-done w begun still =
    elim (cases_Bool (is_done w)) [
      | inl done ↦ done
      | inr undone ↦
          let under_way : is_under_way w ≡ true = ap₂ (λ i d. not (i || d)) begun undone in
          absurd (omega (arith, still, one-true under_way))
    ]

times-one : (a b : ℕ) → a ≡ 1 → a * b ≤ 0 → b ≡ 0
times-one a b e h = let g : 1 * b ≤ 0 = subst (λ k. k * b ≤ 0) e h in omega (arith, g)

-- a hand has at most one association that is being refused
each-one : (s : State) → Sound s → all_refused s ≤ s.hands
each-one s sound =
    let below = total-most (λ h. (s.view h).refused) (λ _. 1) s.hands
    (λ h l. let single = sound.associations.single h l in omega (arith, single)) in
    omega (arith, below, total-ones s.hands)

-- a node is finished only when each child that has begun is done and has reported
pub parents-wait : (s : State) (h : ℕ) (p : Place) (n : ℕ) → Sound s → h < s.hands →
    may_finish s h p ≡ true → n < size s → is_child s.tree p.node n ≡ true →
    is_idle (control_at s (beside (name_at s p) n)) ≡ false →
    (is_done (control_at s (beside (name_at s p) n)) ≡ true)
    × (stand s (λ v. v.reports) (beside (name_at s p) n) ≡ 0)
parents-wait s h p n sound l needs within child begun =
    let x : Name = name_at s p in
    let y : Name = beside x n in
    let parts = and_parts (is_place s p) _ needs in
    let rest : Bool = not (is_armed (phase_at s x) || is_running (phase_at s x)) in
    let leaves = and_parts (may_leave_node (s.view h) x) rest parts.1 in
    let has : 1 ≤ (s.view h).holds x = leb-true _ _ (and_parts (nat_le 1 ((s.view h).holds x)) _ leaves.0).0 in
    let most = stand-at s (λ v. v.holds) h x l in
    let held : is_held (control_at s x) ≡ true = one-is (omega (arith, has, most, (sound.owned.names x).held)) in
    let none : owed_below s x ≡ 0 = sym (sound.counted x) ∙ held-none (control_at s x) held in
    let part = total-at (λ m. one (is_child s.tree x.node m) * weight s (beside x m)) (size s) n within in
    let counts : one (is_child s.tree x.node n) ≡ 1 = one-true child in
    let weighs : weight s y ≡ 0 = times-one (one (is_child s.tree x.node n)) (weight s y) counts (omega (arith, part, none)) in
    (begun-done _ begun (omega (arith, weighs)), omega (arith, weighs))

-- the count is at most the scope's greatest number and the number of hands together
pub count-most : (s : State) → Sound s → s.scope.count ≤ s.most + s.hands
count-most s sound =
    let a = sound.associations in
    let refused : all_refused s ≤ s.hands = each-one s sound in
    let parts = count-parts s a in
    omega (arith, parts, refused, a.most)
