-- The steps rest and take: a node that stays under way changes hands.
use Rattle.std.proofs.Common.{◌≡◌, ℕ, ◌+◌, ◌-◌, ◌<◌, ◌≤◌, true, false, refl, sym, ap, ◌∙◌, arith}
use Rattle.std.proofs.lemmas.Bool.{and_parts}
use Rattle.life_rules.specs.declared.words.ControlWord.{ControlWord}
use Rattle.life_rules.specs.declared.words.ControlWord.TheVariants.{Idle, Busy, ReadyLoop, ReadyPool, Parked, Done}
use Rattle.life_rules.specs.declared.event.Name.{Name}
use Rattle.life_rules.specs.declared.event.Place.{Place}
use Rattle.life_rules.specs.declared.event.Resting.{Resting}
use Rattle.life_rules.specs.declared.event.Resting.TheVariants.{Loop, Pool, Parked as Aside}
use Rattle.life_rules.specs.Words.{is_idle, is_held, is_under_way, may_be_taken, resting_at, pending}
use Rattle.life_rules.specs.Views.{View, gain, lose}
use Rattle.common_lemmas.specs.Sums.{one}
use Rattle.life_rules.specs.States.{State, is_place, control_at, name_at}
use Rattle.life_rules.specs.LifeSteps.{may_leave_node, may_rest, after_rest, may_take, after_take}
use Rattle.life_rules.specs.Sound.{Sound}
use Rattle.life_rules.proofs.Readings.{begun-live}
use Rattle.life_rules.proofs.Names.{gain-here, gain-other, lose-here, lose-other}
use Rattle.life_kept.proofs.Puts.{IsPut}
use Rattle.life_kept.proofs.Holding.{IsHeld, held-by, sound-busy, leave-other, leave-needs}

resting-busy : (to : Resting) → is_under_way (resting_at to) ≡ true
resting-busy Loop = refl
resting-busy Pool = refl
resting-busy Aside = refl

resting-begun : (to : Resting) → is_idle (resting_at to) ≡ false
resting-begun Loop = refl
resting-begun Pool = refl
resting-begun Aside = refl

resting-pending : (to : Resting) → pending (resting_at to) ≡ 0
resting-pending Loop = refl
resting-pending Pool = refl
resting-pending Aside = refl

resting-unheld : (to : Resting) → one (is_held (resting_at to)) ≡ 0
resting-unheld Loop = refl
resting-unheld Pool = refl
resting-unheld Aside = refl

pub sound-rest : (s : State) (h : ℕ) (p : Place) (to : Resting) → Sound s → h < s.hands →
    may_rest s h p ≡ true → Sound (after_rest s h p to)
sound-rest s h p to sound below may =
    let x : Name = name_at s p in
    let needs = leave-needs (s.view h) x (and_parts (is_place s p) (may_leave_node (s.view h) x) may).1 in
    let holds : 1 ≤ (s.view h).holds x = needs.holds in
    let held : IsHeld s x = held-by s h x sound below holds in
    let v : View = s.view h in
    let u : View = record v { holds = lose x v.holds } in
    let step : IsPut s h x (resting_at to) u =
    record { sound = sound; hand = below; live = held.live; views = refl } in
    let was : one (is_held (control_at s x)) ≡ 1 = ap (λ w. one (is_held w)) held.word in
    let now = resting-unheld to in
    let less : lose x v.holds x ≡ v.holds x - 1 = lose-here x v.holds in
    sound-busy s h x (resting_at to) u step
    (ap is_under_way held.word) (resting-busy to) (resting-begun to) (ap is_idle held.word)
    (resting-pending to ∙ sym (ap pending held.word)) refl refl refl
    (omega (arith, was, now, less, holds))
    (λ y ne. lose-other x y v.holds ne)
    (λ y on. let e : lose x v.holds y ≡ v.holds y = lose-other x y v.holds (leave-other s h x y needs.scans on) in omega (arith, e))

-- a word that may be taken is of a node that has begun, and no hand holds
pub record IsResting (w : ControlWord) : Type 0 where
  pub busy : is_under_way w ≡ true
  pub begun : is_idle w ≡ false
  pub children : pending w ≡ 0
  pub unheld : one (is_held w) ≡ 0

resting-word : (w : ControlWord) (h : ℕ) → may_be_taken w h ≡ true → IsResting w
resting-word Idle h may = cc
resting-word (Busy n) h may = cc
resting-word ReadyLoop h may = record { busy = refl; begun = refl; children = refl; unheld = refl }
resting-word ReadyPool h may = record { busy = refl; begun = refl; children = refl; unheld = refl }
resting-word Parked h may = record { busy = refl; begun = refl; children = refl; unheld = refl }
resting-word Done h may = cc

pub sound-take : (s : State) (h : ℕ) (p : Place) → Sound s → h < s.hands →
    may_take s h p ≡ true → Sound (after_take s h p)
sound-take s h p sound below may =
    let x : Name = name_at s p in
    let old = resting-word (control_at s x) h (and_parts (is_place s p) (may_be_taken (control_at s x) h) may).1 in
    let v : View = s.view h in
    let u : View = record v { holds = gain x v.holds } in
    let step : IsPut s h x (Busy 0) u =
    record { sound = sound; hand = below; live = begun-live s x old.begun; views = refl } in
    let was : one (is_held (control_at s x)) ≡ 0 = old.unheld in
    let more : gain x v.holds x ≡ v.holds x + 1 = gain-here x v.holds in
    sound-busy s h x (Busy 0) u step old.busy refl refl old.begun (sym old.children) refl refl refl
    (omega (arith, was, more))
    (λ y ne. gain-other x y v.holds ne)
    (λ y on. omega arith)
