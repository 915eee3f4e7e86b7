-- What a hand's role tells of the node's word.
use Rattle.std.proofs.Common.{◌≡◌, ℕ, ◌<◌, ◌≤◌, true, false, refl, ap, arith}
use Rattle.std.proofs.lemmas.Bool.{both_ways, cond-false}
use Rattle.life_rules.specs.declared.event.Name.{Name}
use Rattle.life_rules.specs.declared.words.CallbackPhase.TheVariants.{Never}
use Rattle.life_rules.specs.declared.words.ControlWord.{ControlWord}
use Rattle.life_rules.specs.declared.words.ControlWord.TheVariants.{Idle, Busy, ReadyLoop, ReadyPool, Parked, Done}
use Rattle.life_rules.specs.Words.{is_never, is_running, is_idle, is_under_way, is_held}
use Rattle.life_rules.specs.States.{State, phase_at, control_at, is_live}
use Rattle.life_rules.specs.Owned.{Owned}
use Rattle.life_rules.specs.Callbacks.{RunsAreScanned}
use Rattle.common_lemmas.proofs.Bool.{either, one-is}
use Rattle.life_rules.proofs.Readings.{stand-at}

held-under_way : (word : ControlWord) → is_held word ≡ true → is_under_way word ≡ true
held-under_way Idle e = cc
held-under_way (Busy children) e = refl
held-under_way ReadyLoop e = cc
held-under_way ReadyPool e = cc
held-under_way Parked e = cc
held-under_way Done e = cc

-- a node that a hand holds is under way
pub holds-under_way : (s : State) (h : ℕ) (x : Name) → Owned s → h < s.hands →
    1 ≤ (s.view h).holds x →
    is_under_way (control_at s x) ≡ true
holds-under_way s h x o l holds =
    let at = stand-at s (λ v. v.holds) h x l in
    let held = (o.names x).held in
    held-under_way (control_at s x) (one-is (omega (arith, at, held, holds)))

under_way-not_idle : (word : ControlWord) → is_under_way word ≡ true → is_idle word ≡ false
under_way-not_idle Idle e = cc
under_way-not_idle (Busy children) e = refl
under_way-not_idle ReadyLoop e = refl
under_way-not_idle ReadyPool e = refl
under_way-not_idle Parked e = refl
under_way-not_idle Done e = cc

pub begun : (s : State) (x : Name) → is_under_way (control_at s x) ≡ true →
    is_idle (control_at s x) ≡ false
begun s x e = under_way-not_idle (control_at s x) e

pub phase-live : (s : State) (x : Name) → is_never (phase_at s x) ≡ false → is_live s x ≡ true
phase-live s x e =
    either (is_live s x) (λ live. live)
    (λ dead.
    let never : phase_at s x ≡ Never = cond-false (is_live s x) (s.callback x.block x.node) Never dead in
    absurd (both_ways _ e (ap is_never never)))

-- the callback of a place that a hand runs is running
pub runs-running : (s : State) (h : ℕ) (x : Name) → RunsAreScanned s → h < s.hands →
    1 ≤ (s.view h).runs x →
    is_running (phase_at s x) ≡ true
runs-running s h x r l runs =
    let at = stand-at s (λ v. v.runs) h x l in
    let word = r.runs x in
    one-is (omega (arith, at, word, runs))
