-- What a standing says of a node, and which it has.
use Rattle.std.proofs.Common.{◌≡◌, ℕ, ◌+◌, ◌-◌, ◌<◌, ◌≤◌, Bool, true, false, cond, not, ◌&&◌, eqb, refl, sym, ap, ◌∙◌, subst, arith}
use Rattle.std.specs.Prelude.{nat_lt, nat_le, ◌==◌}
use Rattle.std.proofs.lemmas.Bool.{and_parts, leb-true, ltb-true, not-true, cond_both, cond-false, false_from_ne_true, both_ways}
use Rattle.common_lemmas.specs.Sums.{one}
use Rattle.common_lemmas.proofs.Bool.{one-is, one-most}
use Rattle.common_lemmas.proofs.Totals.{total-single}
use Rattle.life_kept.proofs.Fitting.{done-word}
use Rattle.life_kept.proofs.Holding.{held-by, owed-start}
use Rattle.life_rules.proofs.Readings.{begun-live, lives, stand-at}
use Rattle.life_rules.specs.declared.event.Name.{Name}
use Rattle.life_rules.specs.declared.event.Place.{Place}
use Rattle.life_rules.specs.declared.words.BlockState.{BlockState}
use Rattle.life_rules.specs.declared.words.BlockState.TheVariants as block
use Rattle.life_rules.specs.declared.words.CallbackPhase.{CallbackPhase}
use Rattle.life_rules.specs.declared.words.CallbackPhase.TheVariants as phase
use Rattle.life_rules.specs.declared.words.ControlWord.{ControlWord}
use Rattle.life_rules.specs.declared.words.ControlWord.TheVariants as word
use Rattle.life_rules.specs.LifeSteps.{root_of}
use Rattle.life_rules.specs.Sound.{Sound}
use Rattle.life_rules.specs.States.{State, size, is_live, name_at, control_at, phase_at, stand}
use Rattle.life_rules.specs.Views.{View}
use Rattle.life_rules.specs.Words.{is_open, is_idle, is_held, is_done, is_running}
use Rattle.node_tree.specs.Tree.{is_root}
use Rattle.step_reasons.specs.declared.callback.Callback.{Callback}
use Rattle.step_reasons.specs.declared.callback.Callback.TheVariants as callback
use Rattle.step_reasons.specs.declared.reading.Part.TheVariants.{Holds, OwesStart, OwesReport, HoldsFinished, Runs}
use Rattle.step_reasons.specs.declared.standing.Standing.{Standing}
use Rattle.step_reasons.specs.declared.standing.Standing.TheVariants.{InFreeBlock, InRetiredBlock, NotAwaited, StartOwed, Held, Waits, InLoop, InPool, Parked, ReportOwed, Reported, HeldFinished}
use Rattle.step_reasons.specs.Scanning.{place_of}
use Rattle.step_reasons.specs.Standings.{first_below, first_hand, has_part, open_standing, block_standing, standing_of, callback_in, callback_of}
use Rattle.step_reasons.proofs.Firsts.{first-is, first-only}

pub open-word : (w : BlockState) → is_open w ≡ true → w ≡ block.Open
open-word block.Free e = cc
open-word block.Open e = refl
open-word block.Retired e = cc

running-word : (w : CallbackPhase) → is_running w ≡ true → w ≡ phase.Running
running-word phase.Never e = cc
running-word phase.Armed e = cc
running-word phase.Running e = refl
running-word phase.Ran e = cc
running-word phase.Removed e = cc

-- a node that has begun stands as its control word says
pub open-stands : (s : State) (p : Place) (w : ControlWord) → control_at s (name_at s p) ≡ w → is_idle w ≡ false → standing_of s p ≡ open_standing s p w
open-stands s p w is begun =
    let x = name_at s p in
    let live = begun-live s x (ap is_idle is ∙ begun) in
    let opened : (s.block p.block).state ≡ block.Open = open-word _ (lives s x live).is_opened in
    ap (block_standing s p) opened ∙ ap (open_standing s p) is

-- the hand that passes a test is the first, where the views together pass it at most once
first-one : (s : State) (test : ℕ → Bool) (count : View → Name → ℕ) (x : Name) → ((m : ℕ) → test m ≡ true → 1 ≤ count (s.view m) x) → stand s count x ≤ 1 → (h : ℕ) → h < s.hands → test h ≡ true → first_below test s.hands ≡ h
first-one s test count x counts most h l t =
    first-only test s.hands h l t
    (λ m below passes. total-single (λ i. count (s.view i) x) s.hands m h most below l (counts m passes) (counts h t))

module _ (s : State) (sound : Sound s) (h : ℕ) (hand : nat_lt h s.hands ≡ true) where
  below : h < s.hands
  below = ltb-true h s.hands hand

  -- a node that the hand holds stands so
  pub held-stands : (p : Place) → nat_le 1 ((s.view h).holds (name_at s p)) ≡ true → standing_of s p ≡ Held h
  held-stands p t =
      let x = name_at s p in
      let is = held-by s h x sound below (leb-true 1 _ t) in
      let fit : stand s (λ v. v.holds) x ≡ one (is_held (control_at s x)) = (sound.owned.names x).held in
      let most : stand s (λ v. v.holds) x ≤ 1 = omega (arith, fit, one-most (is_held (control_at s x))) in
      open-stands s p (word.Busy 0) is.word refl
      ∙ ap Held (first-one s (has_part s Holds p) (λ v. v.holds) x (λ m u. leb-true 1 _ u) most h below t)

  -- so does one whose start it owes
  pub start-stands : (p : Place) → nat_le 1 ((s.view h).starts (name_at s p)) ≡ true → standing_of s p ≡ StartOwed h
  start-stands p t =
      let x = name_at s p in
      let is = owed-start s h x sound below (leb-true 1 _ t) in
      let opened : (s.block p.block).state ≡ block.Open = open-word _ (lives s x is.live).is_opened in
      let fit : stand s (λ v. v.starts) x ≤ one (is_live s x && is_idle (control_at s x)) = (sound.owned.names x).start in
      let most : stand s (λ v. v.starts) x ≤ 1 = omega (arith, fit, one-most (is_live s x && is_idle (control_at s x))) in
      let first = first-one s (has_part s OwesStart p) (λ v. v.starts) x (λ m u. leb-true 1 _ u) most h below t in
      ap (block_standing s p) opened ∙ ap (open_standing s p) is.word
      ∙ ap (λ n. cond (nat_lt n s.hands) (StartOwed n) NotAwaited) first
      ∙ ap (λ b. cond b (StartOwed h) NotAwaited) hand

  -- and one whose report it owes
  pub report-stands : (p : Place) → nat_le 1 ((s.view h).reports (name_at s p)) ≡ true → standing_of s p ≡ ReportOwed h
  report-stands p t =
      let x = name_at s p in
      let all : (s.view h).reports x ≤ stand s (λ v. v.reports) x = stand-at s (λ v. v.reports) h x below in
      let least : 1 ≤ (s.view h).reports x = leb-true 1 _ t in
      let fit : stand s (λ v. v.reports) x ≤ one (is_done (control_at s x) && not (is_root s.tree p.node)) = (sound.owned.names x).report in
      let parts = and_parts (is_done (control_at s x)) (not (is_root s.tree p.node)) (one-is (omega (arith, all, least, fit))) in
      let is : control_at s x ≡ word.Done = done-word (control_at s x) parts.0 in
      let child : is_root s.tree p.node ≡ false = not-true _ parts.1 in
      let most : stand s (λ v. v.reports) x ≤ 1 = omega (arith, fit, one-most (is_done (control_at s x) && not (is_root s.tree p.node))) in
      let first = first-one s (has_part s OwesReport p) (λ v. v.reports) x (λ m u. leb-true 1 _ u) most h below t in
      open-stands s p word.Done is refl
      ∙ cond-false (is_root s.tree p.node) _ _ child
      ∙ ap (λ n. cond (nat_lt n s.hands) (ReportOwed n) Reported) first
      ∙ ap (λ b. cond b (ReportOwed h) Reported) hand

  -- and the finished root that it holds
  pub finish-stands : (b : ℕ) → nat_le 1 ((s.view h).finished (root_of s b)) ≡ true → standing_of s (place_of b (size s - 1)) ≡ HeldFinished h
  finish-stands b t =
      let p = place_of b (size s - 1) in
      let x = root_of s b in
      let all : (s.view h).finished x ≤ stand s (λ v. v.finished) x = stand-at s (λ v. v.finished) h x below in
      let least : 1 ≤ (s.view h).finished x = leb-true 1 _ t in
      let fit : stand s (λ v. v.finished) x ≡ one (is_done (control_at s x) && is_root s.tree (size s - 1)) = (sound.owned.names x).finish in
      let parts = and_parts (is_done (control_at s x)) (is_root s.tree (size s - 1)) (one-is (omega (arith, all, least, fit))) in
      let is : control_at s x ≡ word.Done = done-word (control_at s x) parts.0 in
      let most : stand s (λ v. v.finished) x ≤ 1 = omega (arith, fit, one-most (is_done (control_at s x) && is_root s.tree (size s - 1))) in
      let first = first-one s (has_part s HoldsFinished p) (λ v. v.finished) x (λ m u. leb-true 1 _ u) most h below t in
      open-stands s p word.Done is refl
      ∙ ap (λ r. cond r (HeldFinished (first_hand s HoldsFinished p)) (cond (nat_lt (first_hand s OwesReport p) s.hands) (ReportOwed (first_hand s OwesReport p)) Reported)) parts.1
      ∙ ap HeldFinished first

  -- a callback that the hand runs
  pub runs-called : (p : Place) → nat_le 1 ((s.view h).runs (name_at s p)) ≡ true → callback_of s p ≡ callback.Runs h
  runs-called p t =
      let x = name_at s p in
      let all : (s.view h).runs x ≤ stand s (λ v. v.runs) x = stand-at s (λ v. v.runs) h x below in
      let least : 1 ≤ (s.view h).runs x = leb-true 1 _ t in
      let fit : stand s (λ v. v.runs) x ≡ one (is_running (phase_at s x)) = sound.runs.runs x in
      let is : phase_at s x ≡ phase.Running = running-word _ (one-is (omega (arith, all, least, fit))) in
      let most : stand s (λ v. v.runs) x ≤ 1 = omega (arith, fit, one-most (is_running (phase_at s x))) in
      ap (callback_in s p) is
      ∙ ap callback.Runs (first-one s (has_part s Runs p) (λ v. v.runs) x (λ m u. leb-true 1 _ u) most h below t)

-- what a standing says
abbrev pub claims : State → Place → Standing → Type 0
claims s p InFreeBlock = Unit {0}
claims s p InRetiredBlock = Unit {0}
claims s p NotAwaited = Unit {0}
claims s p (StartOwed k) = nat_lt k s.hands ≡ true → has_part s OwesStart p k ≡ true
claims s p (Held k) = nat_lt k s.hands ≡ true → has_part s Holds p k ≡ true
claims s p (Waits n) = Unit {0}
claims s p InLoop = control_at s (name_at s p) ≡ word.ReadyLoop
claims s p InPool = control_at s (name_at s p) ≡ word.ReadyPool
claims s p Parked = control_at s (name_at s p) ≡ word.Parked
claims s p (ReportOwed k) = nat_lt k s.hands ≡ true → has_part s OwesReport p k ≡ true
claims s p Reported = Unit {0}
claims s p (HeldFinished k) = nat_lt k s.hands ≡ true → has_part s HoldsFinished p k ≡ true

claims-open : (s : State) (p : Place) (w : ControlWord) → control_at s (name_at s p) ≡ w → claims s p (open_standing s p w)
claims-open s p word.Idle e =
    cond_both (nat_lt (first_hand s OwesStart p) s.hands) (StartOwed (first_hand s OwesStart p)) NotAwaited (claims s p)
    (λ _ l. first-is (has_part s OwesStart p) s.hands (ltb-true _ _ l)) (λ _. tt)
claims-open s p (word.Busy n) e =
    cond_both (n == 0) (Held (first_hand s Holds p)) (Waits n) (claims s p)
    (λ _ l. first-is (has_part s Holds p) s.hands (ltb-true _ _ l)) (λ _. tt)
claims-open s p word.ReadyLoop e = e
claims-open s p word.ReadyPool e = e
claims-open s p word.Parked e = e
claims-open s p word.Done e =
    cond_both (is_root s.tree p.node) (HeldFinished (first_hand s HoldsFinished p)) (cond (nat_lt (first_hand s OwesReport p) s.hands) (ReportOwed (first_hand s OwesReport p)) Reported) (claims s p)
    (λ _ l. first-is (has_part s HoldsFinished p) s.hands (ltb-true _ _ l))
    (λ _.
    cond_both (nat_lt (first_hand s OwesReport p) s.hands) (ReportOwed (first_hand s OwesReport p)) Reported (claims s p)
    (λ _ l. first-is (has_part s OwesReport p) s.hands (ltb-true _ _ l)) (λ _. tt))

claims-block : (s : State) (p : Place) (w : BlockState) → claims s p (block_standing s p w)
claims-block s p block.Free = tt
claims-block s p block.Open = claims-open s p (control_at s (name_at s p)) refl
claims-block s p block.Retired = tt

pub claimed : (s : State) (p : Place) (standing : Standing) → standing_of s p ≡ standing → claims s p standing
claimed s p standing e = subst (claims s p) e (claims-block s p (s.block p.block).state)

-- whether a standing is that of a node that has begun
abbrev pub begun : Standing → Bool
begun InFreeBlock = false
begun InRetiredBlock = false
begun NotAwaited = false
begun (StartOwed k) = false
begun (Held k) = true
begun (Waits n) = true
begun InLoop = true
begun InPool = true
begun Parked = true
begun (ReportOwed k) = true
begun Reported = true
begun (HeldFinished k) = true

begun-open : (s : State) (p : Place) (w : ControlWord) → begun (open_standing s p w) ≡ not (is_idle w)
begun-open s p word.Idle = cond_both (nat_lt (first_hand s OwesStart p) s.hands) (StartOwed (first_hand s OwesStart p)) NotAwaited (λ t. begun t ≡ false) (λ _. refl) (λ _. refl)
begun-open s p (word.Busy n) = cond_both (n == 0) (Held (first_hand s Holds p)) (Waits n) (λ t. begun t ≡ true) (λ _. refl) (λ _. refl)
begun-open s p word.ReadyLoop = refl
begun-open s p word.ReadyPool = refl
begun-open s p word.Parked = refl
begun-open s p word.Done =
    cond_both (is_root s.tree p.node) (HeldFinished (first_hand s HoldsFinished p)) (cond (nat_lt (first_hand s OwesReport p) s.hands) (ReportOwed (first_hand s OwesReport p)) Reported) (λ t. begun t ≡ true)
    (λ _. refl)
    (λ _. cond_both (nat_lt (first_hand s OwesReport p) s.hands) (ReportOwed (first_hand s OwesReport p)) Reported (λ t. begun t ≡ true) (λ _. refl) (λ _. refl))

-- a node of a block that isn't open hasn't begun
shut-idle : (s : State) (p : Place) (w : BlockState) → (s.block p.block).state ≡ w → is_open w ≡ false → not (is_idle (control_at s (name_at s p))) ≡ false
shut-idle s p w is shut =
    let x = name_at s p in
    let dead : is_live s x ≡ false =
    false_from_ne_true (is_live s x) (λ live. both_ways (is_open w) shut (ap is_open (sym is) ∙ (lives s x live).is_opened)) in
    ap (λ u. not (is_idle u)) (cond-false (is_live s x) (s.control p.block p.node) word.Idle dead)

begun-block : (s : State) (p : Place) (w : BlockState) → (s.block p.block).state ≡ w → begun (block_standing s p w) ≡ not (is_idle (control_at s (name_at s p)))
begun-block s p block.Free is = sym (shut-idle s p block.Free is refl)
begun-block s p block.Open is = begun-open s p (control_at s (name_at s p))
begun-block s p block.Retired is = sym (shut-idle s p block.Retired is refl)

pub begun-of : (s : State) (p : Place) → begun (standing_of s p) ≡ not (is_idle (control_at s (name_at s p)))
begun-of s p = begun-block s p (s.block p.block).state refl

-- what is said of a callback
abbrev pub said : State → Place → Callback → Type 0
said s p callback.Never = Unit {0}
said s p callback.Armed = Unit {0}
said s p (callback.Runs k) = nat_lt k s.hands ≡ true → has_part s Runs p k ≡ true
said s p callback.Ran = Unit {0}
said s p callback.Removed = Unit {0}

said-in : (s : State) (p : Place) (w : CallbackPhase) → said s p (callback_in s p w)
said-in s p phase.Never = tt
said-in s p phase.Armed = tt
said-in s p phase.Running = λ l. first-is (has_part s Runs p) s.hands (ltb-true _ _ l)
said-in s p phase.Ran = tt
said-in s p phase.Removed = tt

pub told-called : (s : State) (p : Place) (c : Callback) → callback_of s p ≡ c → said s p c
told-called s p c e = subst (said s p) e (said-in s p (phase_at s (name_at s p)))

-- the callback word of what is said
abbrev pub phase_in : Callback → CallbackPhase
phase_in callback.Never = phase.Never
phase_in callback.Armed = phase.Armed
phase_in (callback.Runs k) = phase.Running
phase_in callback.Ran = phase.Ran
phase_in callback.Removed = phase.Removed

phase-in : (s : State) (p : Place) (w : CallbackPhase) → phase_in (callback_in s p w) ≡ w
phase-in s p phase.Never = refl
phase-in s p phase.Armed = refl
phase-in s p phase.Running = refl
phase-in s p phase.Ran = refl
phase-in s p phase.Removed = refl

-- where the same is said of a callback its word is the same
pub same-phase : (s t : State) (p : Place) → callback_of t p ≡ callback_of s p → phase_at t (name_at t p) ≡ phase_at s (name_at s p)
same-phase s t p e = sym (phase-in t p (phase_at t (name_at t p))) ∙ ap phase_in e ∙ phase-in s p (phase_at s (name_at s p))
