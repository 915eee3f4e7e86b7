-- Counts of a name against its word, over plain numbers.
use Rattle.std.proofs.Common.{◌≡◌, ℕ, ◌≤◌, Bool, true, false, not, ◌&&◌, refl, sym, ap, arith}
use Rattle.std.proofs.Math.Path.{transport}
use Rattle.std.proofs.lemmas.Bool.{and_right, and_left, eqb-true}
use Rattle.life_rules.specs.declared.words.ControlWord.{ControlWord}
use Rattle.life_rules.specs.declared.words.ControlWord.TheVariants.{Idle, Busy, ReadyLoop, ReadyPool, Parked, Done}
use Rattle.life_rules.specs.declared.event.Name.{Name}
use Rattle.life_rules.specs.Words.{is_idle, is_held, is_done, is_under_way, pending}
use Rattle.common_lemmas.specs.Sums.{one}
use Rattle.life_rules.specs.Views.{gain}
use Rattle.life_rules.specs.Owned.{Fits}
use Rattle.common_lemmas.proofs.Bool.{one-false}

pub gain-least : (x y : Name) (f : Name → ℕ) → f y ≤ gain x f y
gain-least x y f = omega arith

-- the same counts, live and word
pub Fits-along : {a a' b b' c c' d d' : ℕ} {l l' r r' : Bool} {w w' : ControlWord} →
    a' ≡ a → b' ≡ b → c' ≡ c → d' ≡ d → l' ≡ l → r' ≡ r → w' ≡ w →
    Fits a b c d l r w → Fits a' b' c' d' l' r' w'
Fits-along p q t u k m e = transport (λ i. Fits (sym p i) (sym q i) (sym t i) (sym u i) (sym k i) (sym m i) (sym e i))

-- a held word is one that waits for none
pub held-word : (w : ControlWord) → is_held w ≡ true → w ≡ Busy 0
held-word Idle h = cc
held-word (Busy n) h = ap Busy (eqb-true n 0 h)
held-word ReadyLoop h = cc
held-word ReadyPool h = cc
held-word Parked h = cc
held-word Done h = cc

pub idle-word : (w : ControlWord) → is_idle w ≡ true → w ≡ Idle
idle-word Idle h = refl
idle-word (Busy n) h = cc
idle-word ReadyLoop h = cc
idle-word ReadyPool h = cc
idle-word Parked h = cc
idle-word Done h = cc

pub done-word : (w : ControlWord) → is_done w ≡ true → w ≡ Done
done-word Idle h = cc
done-word (Busy n) h = cc
done-word ReadyLoop h = cc
done-word ReadyPool h = cc
done-word Parked h = cc
done-word Done h = refl

-- a word with children pending is busy with so many
pub pending-word : (w : ControlWord) → 1 ≤ pending w → w ≡ Busy (pending w)
pending-word Idle h = absurd (omega (arith, h))
pending-word (Busy n) h = refl
pending-word ReadyLoop h = absurd (omega (arith, h))
pending-word ReadyPool h = absurd (omega (arith, h))
pending-word Parked h = absurd (omega (arith, h))
pending-word Done h = absurd (omega (arith, h))

-- only a node that is under way has children pending
pub pending-none : (w : ControlWord) → is_under_way w ≡ false → pending w ≡ 0
pending-none Idle h = refl
pending-none (Busy n) h = cc
pending-none ReadyLoop h = cc
pending-none ReadyPool h = cc
pending-none Parked h = cc
pending-none Done h = refl

-- a node under way is neither idle nor done
pub under_way-parts : (w : ControlWord) → is_under_way w ≡ true → (is_idle w ≡ false) × (is_done w ≡ false)
under_way-parts Idle h = cc
under_way-parts (Busy n) h = (refl, refl)
under_way-parts ReadyLoop h = (refl, refl)
under_way-parts ReadyPool h = (refl, refl)
under_way-parts Parked h = (refl, refl)
under_way-parts Done h = cc

-- the counts of a node under way
pub record IsBusy (a b c d : ℕ) (w : ControlWord) : Type 0 where
  pub holds : a ≡ one (is_held w)
  pub starts : b ≡ 0
  pub reports : c ≡ 0
  pub finished : d ≡ 0

pub Fits-busy : {a b c d : ℕ} {l r : Bool} {w : ControlWord} → is_under_way w ≡ true →
    Fits a b c d l r w → IsBusy a b c d w
Fits-busy {l} {r} {w} on f =
    let parts = under_way-parts w on in
    let p : one (l && is_idle w) ≡ 0 = one-false (and_right l (is_idle w) parts.0) in
    let q : one (is_done w && not r) ≡ 0 = one-false (and_left (is_done w) (not r) parts.1) in
    let t : one (is_done w && r) ≡ 0 = one-false (and_left (is_done w) r parts.1) in
    record {
      holds = f.held;
      starts = omega (arith, f.start, p);
      reports = omega (arith, f.report, q);
      finished = omega (arith, f.finish, t);
    }

pub busy-Fits : {a b c d : ℕ} {l r : Bool} {w : ControlWord} → is_under_way w ≡ true →
    IsBusy a b c d w → Fits a b c d l r w
busy-Fits {l} {r} {w} on f =
    let parts = under_way-parts w on in
    let p : one (r && (l && is_idle w)) ≡ 0 = one-false (and_right r _ (and_right l (is_idle w) parts.0)) in
    let t : one (is_done w && r) ≡ 0 = one-false (and_left (is_done w) r parts.1) in
    record {
      held = f.holds;
      start = omega (arith, f.starts);
      root_start = omega (arith, p);
      report = omega (arith, f.reports);
      finish = omega (arith, f.finished, t);
    }

-- the counts of a root that is done, and of another node that is done and whose report is owed
pub done-Fits-root : {a b c d : ℕ} {l : Bool} → a ≡ 0 → b ≡ 0 → c ≡ 0 → d ≡ 1 → Fits a b c d l true Done
done-Fits-root {l} p q t u =
    let none : one (l && false) ≡ 0 = one-false (and_right l false refl) in
    record { held = p; start = omega (arith, q); root_start = omega (arith, none); report = omega (arith, t); finish = u }

pub done-Fits-child : {a b c d : ℕ} {l : Bool} → a ≡ 0 → b ≡ 0 → c ≡ 1 → d ≡ 0 → Fits a b c d l false Done
done-Fits-child p q t u =
    record { held = p; start = omega (arith, q); root_start = omega arith; report = omega (arith, t); finish = u }
