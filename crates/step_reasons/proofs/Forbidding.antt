-- In each sound state in which a reason is so the step may not be taken.
use Rattle.std.proofs.Common.{◌≡◌, ℕ, zero, suc, ◌+◌, ◌-◌, ◌<◌, ◌≤◌, Bool, true, false, cond, not, ◌&&◌, ◌||◌, List, [], ◌∷◌, length, Option, None, Some, refl, sym, ap, ◌∙◌, subst, inl, inr, arith}
use Rattle.std.specs.Prelude.{is_some, nat_lt, nat_le, ◌==◌}
use Rattle.std.specs.List.{list_all}
use Rattle.std.specs.Option.{option_map_or}
use Rattle.std.proofs.lemmas.Bool.{and_parts, and_from, leb-true, le-leb, ltb-true, lt-ltb, eqb-true, not-true, cond_both, both_ways, false≢true, false_from_ne_true}
use Rattle.common_lemmas.specs.Lists.{are_different}
use Rattle.common_lemmas.specs.Sums.{one}
use Rattle.common_lemmas.proofs.Bool.{either, one-is}
use Rattle.common_lemmas.proofs.Options.{known, map_or-some}
use Rattle.exec_life.proofs.Below.{some_below-found}
use Rattle.life_rules.proofs.Readings.{lives, stand-at}
use Rattle.life_rules.proofs.ScanOrder.{has_none-at}
use Rattle.life_rules.specs.declared.event.Event.{Event}
use Rattle.life_rules.specs.declared.event.Event.TheVariants.{Claim, Begin, Await, Rest, Take, Finish, Report, Release, Arm, Look, Request, Run, EndRun, Withdraw, WithdrawOwn, SealScan, Skip, Rouse, Enter, MarkUsed, Leave, Close, Join, Seal}
use Rattle.life_rules.specs.declared.event.Name.{Name}
use Rattle.life_rules.specs.declared.event.Place.{Place}
use Rattle.life_rules.specs.declared.event.SourceAt.{SourceAt}
use Rattle.life_rules.specs.declared.event.SourceAt.TheVariants.{Scope, At}
use Rattle.life_rules.specs.declared.event.SourceRef.TheVariants.{Node}
use Rattle.life_rules.specs.declared.scope.ScopeWord.{ScopeWord}
use Rattle.life_rules.specs.declared.words.BlockState.{BlockState}
use Rattle.life_rules.specs.declared.words.BlockState.TheVariants.{Free, Open, Retired}
use Rattle.life_rules.specs.declared.words.CallbackPhase.{CallbackPhase}
use Rattle.life_rules.specs.declared.words.CallbackPhase.TheVariants.{Never as NeverWord}
use Rattle.life_rules.specs.declared.words.ControlWord.{ControlWord}
use Rattle.life_rules.specs.declared.words.ControlWord.TheVariants as word
use Rattle.life_rules.specs.LifeSteps.{may_leave_node, may_be_awaited, root_of}
use Rattle.life_rules.specs.Scans.{index, end, has_none, is_nearest, is_next, is_next_in, is_past_all, place_at}
use Rattle.life_rules.specs.Scopes.{may_seal}
use Rattle.life_rules.specs.ScopeSteps.{may_enter, may_mark_used, may_leave, may_seal_as, same_word}
use Rattle.life_rules.specs.Sound.{Sound}
use Rattle.life_rules.specs.States.{State, size, is_place, is_live, name_of, name_at, control_at, phase_at, nearest_of, source_for, stand}
use Rattle.life_rules.specs.Steps.{may_happen, is_step}
use Rattle.life_rules.specs.StopSteps.{source_of, is_source, some_below, may_look, may_request, may_run, may_end_run, may_seal_scan, may_skip}
use Rattle.life_rules.specs.Views.{beside, is_scanning}
use Rattle.life_rules.specs.Words.{is_open, is_free, is_idle, is_never, is_armed, is_running, has_run, is_parked, may_be_taken}
use Rattle.node_tree.specs.declared.node.TreeNode.{TreeNode}
use Rattle.node_tree.specs.Tree.{Nearest, TheScope, TheNode, Nowhere, nearest, is_child, parent_of}
use Rattle.step_reasons.specs.declared.callback.Callback.TheVariants.{Runs as RunsOn}
use Rattle.step_reasons.specs.declared.fact.Fact.{Fact}
use Rattle.step_reasons.specs.declared.fact.Fact.TheVariants.{GoesOnWith, ScansNot, InTheMaking, BeingRefused}
use Rattle.step_reasons.specs.declared.standing.Standing.TheVariants.{StartOwed, Held, InLoop, InPool, Parked, ReportOwed, HeldFinished}
use Rattle.step_reasons.specs.Laws.{FactsForbid, move}
use Rattle.step_reasons.specs.LifeReasons.{leave_reason, children_reason, parent_reason, calls_back}
use Rattle.step_reasons.specs.Reasons.{event_reason, reason_of}
use Rattle.step_reasons.specs.Scanning.{at_is, place_of, nearest_source, is_known, scans, next_place}
use Rattle.step_reasons.specs.So.{IsSo}
use Rattle.step_reasons.specs.Standings.{standing_of, open_standing}
use Rattle.step_reasons.specs.StopReasons.{end_run_reason, scan_reason}
use Rattle.step_reasons.proofs.Passing.{on, done, no_left, no_right}
use Rattle.step_reasons.proofs.ScanPlaces.{index-place, near-test, near-known, next-scans, next-near, next-found, IsFound, found-next, none-next, some-found}
use Rattle.step_reasons.proofs.Standings.{open-stands, held-stands, start-stands, report-stands, finish-stands, runs-called, claimed, begun, begun-of, told-called, same-phase}

-- a test that holds and doesn't
clash : {G : Type 0} (b : Bool) → b ≡ true → b ≡ false → G
clash b t f = absurd (both_ways b f t)

zero-least : (n : ℕ) → (n == 0) ≡ false → nat_le 1 n ≡ true
zero-least zero e = cc
zero-least (suc n) e = le-leb 1 (suc n) (omega arith)

least-zero : (n : ℕ) → nat_le 1 n ≡ true → (n == 0) ≡ true → ⊥
least-zero n least none =
    let some : 1 ≤ n = leb-true 1 n least in
    let is : n ≡ 0 = eqb-true n 0 none in
    omega (arith, some, is)

-- a parked node, by its word
parked-word : (w : ControlWord) → is_parked w ≡ true → w ≡ word.Parked
parked-word word.Idle e = cc
parked-word (word.Busy n) e = cc
parked-word word.ReadyLoop e = cc
parked-word word.ReadyPool e = cc
parked-word word.Parked e = refl
parked-word word.Done e = cc

-- whether a node hears any source depends on the tree alone
some-for : (x y : Name) (n : Nearest) → is_some (source_for x n) ≡ is_some (source_for y n)
some-for x y TheScope = refl
some-for x y (TheNode m) = refl
some-for x y Nowhere = refl

or-first : (a b : Bool) → (a || b) ≡ true → a ≡ false → b ≡ true
or-first true b e f = cc
or-first false b e f = e

or-second : (a b : Bool) → (a || b) ≡ false → b ≡ false
or-second true b e = cc
or-second false b e = e

free-shut : (w : BlockState) → is_free w ≡ true → is_open w ≡ true → ⊥
free-shut Free free opened = cc
free-shut Open free opened = cc
free-shut Retired free opened = cc

module _ (s : State) (h : ℕ) (hand : nat_lt h s.hands ≡ true) (sound : Sound s) where
  -- the event may not happen in any such state of the same tree in which the fact is so
  abbrev Forbids : Event → Fact → Type 0
  Forbids event fact = (t : State) → Sound t → t.tree ≡ s.tree → nat_lt h t.hands ≡ true → IsSo t fact → may_happen t h event ≡ true → ⊥

  leave-forbids : (event : Event) (p : Place) (rest : Option Fact) (found : Fact) → leave_reason s h p rest ≡ Some found
      → ((t : State) → may_happen t h event ≡ true → may_leave_node (t.view h) (name_at t p) ≡ true)
      → (rest ≡ Some found → Forbids event found) → Forbids event found
  leave-forbids event p rest found e needs later =
      on (Forbids event) _ _ _ found e
      (λ none t sound_t tree hand_t so may.
      let holds = (and_parts _ _ (needs t may)).0 in
      clash _ (claimed s p (Held h) (sym so.1 ∙ held-stands t sound_t h hand_t p holds) hand) none)
      (λ held e.
      on (Forbids event) _ _ _ found e
      (λ _ t sound_t tree hand_t so may.
      clash _ (and_parts (is_known t (At p)) _ so.1).1 (not-true _ (and_parts _ _ (needs t may)).1))
      (λ _ e. later e))

  end_run-forbids : (event : Event) (p : Place) (rest : Option Fact) (found : Fact) → end_run_reason s h p rest ≡ Some found
      → ((t : State) → may_happen t h event ≡ true → may_end_run t h p ≡ true)
      → (rest ≡ Some found → Forbids event found) → Forbids event found
  end_run-forbids event p rest found e needs later =
      on (Forbids event) _ _ _ found e
      (λ _ t sound_t tree hand_t so may. clash _ (and_parts (is_place t p) _ (needs t may)).0 so)
      (λ there e.
      on (Forbids event) _ _ _ found e
      (λ none t sound_t tree hand_t so may.
      let runs = (and_parts _ _ (and_parts (is_place t p) _ (needs t may)).1).0 in
      clash _ (told-called s p (RunsOn h) (sym so.1 ∙ runs-called t sound_t h hand_t p runs) hand) none)
      (λ _ e.
      on (Forbids event) _ _ _ found e
      (λ _ t sound_t tree hand_t so may.
      clash _ (and_parts (is_known t (At p)) _ so.1).1 (not-true _ (and_parts _ _ (and_parts (is_place t p) _ (needs t may)).1).1))
      (λ _ e. later e)))

  -- each child that is named
  abbrev Awaits : Place → List ℕ → Fact → Type 0
  Awaits p nodes fact = (t : State) → IsSo t fact → list_all (may_be_awaited t (name_at t p)) nodes ≡ true → ⊥

  children-forbid : (p : Place) (nodes : List ℕ) (found : Fact) → children_reason s p nodes ≡ Some found → Awaits p nodes found
  children-forbid p [] found e = done (Awaits p []) found e
  children-forbid p (n ∷ ns) found e =
      on (Awaits p (n ∷ ns)) _ _ _ found e
      (λ _ t so all. clash _ (and_parts _ _ (and_parts (may_be_awaited t (name_at t p) n) _ all).0).0 so.1)
      (λ _ e.
      on (Awaits p (n ∷ ns)) _ _ _ found e
      (λ idle t so all.
      let q = place_of p.block n in
      let idle_t = (and_parts (is_child t.tree p.node n) _ (and_parts (may_be_awaited t (name_at t p) n) _ all).0).1 in
      clash (begun (standing_of t q)) (ap begun so.1 ∙ begun-of s q ∙ ap not idle) (begun-of t q ∙ ap not idle_t))
      (λ _ e t so all. children-forbid p ns found e t so (and_parts (may_be_awaited t (name_at t p) n) _ all).1))

  parent-forbids : (p : Place) (parent : Option ℕ) (found : Fact) → parent_of s.tree p.node ≡ parent → parent_reason s h p parent ≡ Some found → Forbids (Report p) found
  parent-forbids p None found is e = λ t sound_t tree hand_t so may.
      let none : parent_of t.tree p.node ≡ None = ap (λ (l : List TreeNode). parent_of l p.node) tree ∙ is in
      let need = (and_parts _ _ (and_parts (is_place t p) _ may).1).1 in
      false≢true (sym (ap (λ (o : Option ℕ). option_map_or (λ q. not (is_scanning (t.view h) (Node (name_of t p.block q)))) o false) none) ∙ need)
  parent-forbids p (Some q) found is e =
      on (Forbids (Report p)) _ _ _ found e
      (λ _ t sound_t tree hand_t so may.
      let there : parent_of t.tree p.node ≡ Some q = ap (λ (l : List TreeNode). parent_of l p.node) tree ∙ is in
      let need = (and_parts _ _ (and_parts (is_place t p) _ may).1).1 in
      let not_scanning : not (is_scanning (t.view h) (Node (name_of t p.block q))) ≡ true =
      sym (ap (λ (o : Option ℕ). option_map_or (λ m. not (is_scanning (t.view h) (Node (name_of t p.block m)))) o false) there) ∙ need in
      clash _ (and_parts (is_known t (At (place_of p.block q))) _ so.1).1 (not-true _ not_scanning))
      (λ _ e. done (Forbids (Report p)) found e)

  -- a node that rests where the hand takes stands so
  taken-clash : (t : State) (p : Place) (w : ControlWord) → control_at t (name_at t p) ≡ w → may_be_taken w h ≡ true → standing_of t p ≡ standing_of s p → may_be_taken (control_at s (name_at s p)) h ≡ false → ⊥
  taken-clash t p word.Idle is may same none = cc
  taken-clash t p (word.Busy n) is may same none = cc
  taken-clash t p word.ReadyLoop is may same none =
      clash _ (ap (λ w. may_be_taken w h) (claimed s p InLoop (sym same ∙ open-stands t p word.ReadyLoop is refl)) ∙ may) none
  taken-clash t p word.ReadyPool is may same none =
      clash _ (ap (λ w. may_be_taken w h) (claimed s p InPool (sym same ∙ open-stands t p word.ReadyPool is refl)) ∙ may) none
  taken-clash t p word.Parked is may same none =
      clash _ (ap (λ w. may_be_taken w h) (claimed s p Parked (sym same ∙ open-stands t p word.Parked is refl)) ∙ may) none
  taken-clash t p word.Done is may same none = cc

  -- a callback that the hand runs in s it runs wherever the same is said of it
  runs-clash : (t : State) (p : Place) → nat_lt h t.hands ≡ true → ((s.view h).runs (name_at s p) == 0) ≡ false → IsSo t (calls_back s p) → ((t.view h).runs (name_at t p) == 0) ≡ true → ⊥
  runs-clash t p hand_t some so none =
      let called = runs-called s sound h hand p (zero-least _ some) in
      least-zero _ (told-called t p (RunsOn h) (so.1 ∙ called) hand_t) none

  -- where the scan stands
  run-forbids : (at : SourceAt) (p : Place) → is_place s p ≡ true → ((s.view h).runs (name_at s p) == 0) ≡ true → may_run s h at p ≡ false → Forbids (Run at p) (scan_reason s h at)
  run-forbids at p there idle no_run =
      cond_both (scans s h at) (GoesOnWith h at (next_place s h at)) (ScansNot h at) (Forbids (Run at p))
      (λ _ t sound_t tree hand_t so may.
      let parts = and_parts (is_place t p) _ may in
      let next = (and_parts (is_next_in t (t.view h) (source_of t at) (name_at t p)) _ parts.1).0 in
      let found = found-next s h at p (sym so.2 ∙ next-found t h at p parts.0 next) in
      clash (may_run s h at p) (and_from (is_place s p) _ there (and_from (is_next_in s (s.view h) (source_of s at) (name_at s p)) _ found.next idle)) no_run)
      (λ _ t sound_t tree hand_t so may.
      let parts = and_parts (is_place t p) _ may in
      let next = (and_parts (is_next_in t (t.view h) (source_of t at) (name_at t p)) _ parts.1).0 in
      let known = near-known t p at parts.0 (next-near t h (source_of t at) (name_at t p) next) in
      clash (scans t h at) (and_from (is_known t at) _ known (next-scans t h (source_of t at) (name_at t p) next)) so.1)

  source-known : (t : State) (at : SourceAt) → is_source t at ≡ true → is_known t at ≡ true
  source-known t Scope is = refl
  source-known t (At p) is = (and_parts (is_place t p) _ is).0

  -- a scan that has passed all places has no next
  past-clash : (t : State) (at : SourceAt) (p : Place) → IsFound t h at p → option_map_or (λ i. is_past_all t (source_of t at) i) ((t.view h).scan (source_of t at)) false ≡ true → ⊥
  past-clash t at p found past =
      let source = source_of t at in
      let i = found.number in
      let a = map_or-some (λ k. is_next t source k (name_at t p)) ((t.view h).scan source) found.next in
      let b = map_or-some (λ k. is_past_all t source k) ((t.view h).scan source) past in
      let from : a.0 ≡ b.0 = (let both : Some a.0 ≡ Some b.0 = sym a.1 ∙ b.1 in cc) in
      let near = and_parts (is_nearest t source (name_at t p)) _ a.2 in
      let start = leb-true a.0 _ (and_parts (nat_le a.0 (index t (name_at t p))) _ near.1).0 in
      let at_i : index t (name_at t p) ≡ i = ap (index t) found.is ∙ index-place t i found.within in
      let least : b.0 ≤ i = omega (arith, start, at_i, from) in
      let below : i < b.0 + (end t - b.0) = omega (arith, least, found.within) in
      clash (is_nearest t source (place_at t i)) (ap (is_nearest t source) (sym found.is) ∙ near.0) (has_none-at t source b.0 (end t - b.0) i b.2 least below)

  seal-forbids : (at : SourceAt) → is_source s at ≡ true → may_seal_scan s h at ≡ false → Forbids (SealScan at) (scan_reason s h at)
  seal-forbids at source no_seal =
      cond_both (scans s h at) (GoesOnWith h at (next_place s h at)) (ScansNot h at) (Forbids (SealScan at))
      (λ scanning t sound_t tree hand_t so may.
      let past = (and_parts (is_source t at) _ may).1 in
      known (next_place s h at)
      (λ none.
      let stood = (and_parts (is_known s at) _ scanning).1 in
      known ((s.view h).scan (source_of s at))
      (λ no_scan. clash _ stood (ap is_some no_scan))
      (λ from is.
      clash (may_seal_scan s h at)
      (and_from (is_source s at) _ source
      (ap (λ (o : Option ℕ). option_map_or (λ i. is_past_all s (source_of s at) i) o false) is ∙ none-next s h at from is none))
      no_seal))
      (λ p is. past-clash t at p (found-next t h at p (so.2 ∙ is)) past))
      (λ _ t sound_t tree hand_t so may.
      let parts = and_parts (is_source t at) _ may in
      let b = map_or-some (λ k. is_past_all t (source_of t at) k) ((t.view h).scan (source_of t at)) parts.1 in
      clash (scans t h at) (and_from (is_known t at) _ (source-known t at parts.0) (ap is_some b.1)) so.1)

  -- no callback of a free block runs
  free-quiet : (b n : ℕ) → is_free (s.block b).state ≡ true → ((s.view h).runs (name_of s b n) == 0) ≡ true
  free-quiet b n free =
      let x = name_of s b n in
      either ((s.view h).runs x == 0) (λ t. t)
      (λ some.
      let least : 1 ≤ (s.view h).runs x = leb-true 1 _ (zero-least _ some) in
      let all : (s.view h).runs x ≤ stand s (λ v. v.runs) x = stand-at s (λ v. v.runs) h x (ltb-true h s.hands hand) in
      let fit : stand s (λ v. v.runs) x ≡ one (is_running (phase_at s x)) = sound.runs.runs x in
      let running : is_running (phase_at s x) ≡ true = one-is (omega (arith, all, least, fit)) in
      either (is_live s x)
      (λ live. absurd (free-shut (s.block b).state free (lives s x live).is_opened))
      (λ dead. clash _ running (ap is_running (ap (λ l. cond l (s.callback b n) NeverWord) dead))))

  skip-forbids : (b : ℕ) → nat_lt b s.blocks ≡ true → is_free (s.block b).state ≡ true → may_skip s h b ≡ false → Forbids (Skip b) (scan_reason s h Scope)
  skip-forbids b block free no_skip =
      cond_both (scans s h Scope) (GoesOnWith h Scope (next_place s h Scope)) (ScansNot h Scope) (Forbids (Skip b))
      (λ _ t sound_t tree hand_t so may.
      let parts = and_parts (nat_lt b t.blocks) _ may in
      let found = some-found _ (size t) (and_parts (is_free (t.block b).state) _ parts.1).1 in
      let n = found.0 in
      let next = (and_parts (is_next_in t (t.view h) (source_of t Scope) (name_of t b n)) _ found.2).0 in
      let p = place_of b n in
      let there : is_place t p ≡ true = and_from (nat_lt b t.blocks) (nat_lt n (size t)) parts.0 (lt-ltb n (size t) found.1) in
      let here = found-next s h Scope p (sym so.2 ∙ next-found t h Scope p there next) in
      let within : n < size s = omega (arith, found.1, ap length tree) in
      let test : ℕ → Bool = λ m. is_next_in s (s.view h) (source_of s Scope) (name_of s b m) && (s.view h).runs (name_of s b m) == 0 in
      clash (may_skip s h b)
      (and_from (nat_lt b s.blocks) _ block
      (and_from (is_free (s.block b).state) _ free
      (some_below-found test (size s) n within (and_from (is_next_in s (s.view h) (source_of s Scope) (name_of s b n)) _ here.next (free-quiet b n free)))))
      no_skip)
      (λ _ t sound_t tree hand_t so may.
      let parts = and_parts (nat_lt b t.blocks) _ may in
      let found = some-found _ (size t) (and_parts (is_free (t.block b).state) _ parts.1).1 in
      let next = (and_parts (is_next_in t (t.view h) (source_of t Scope) (name_of t b found.0)) _ found.2).0 in
      clash (scans t h Scope) (next-scans t h (source_of t Scope) (name_of t b found.0) next) so.1)

  event-forbids : (event : Event) (found : Fact) → event_reason s h event ≡ Some found → Forbids event found
  event-forbids (Claim b) found e =
      on (Forbids (Claim b)) _ _ _ found e
      (λ _ t _ _ _ so may. clash _ (and_parts (nat_lt b t.blocks) _ may).0 so)
      (λ _ e.
      on (Forbids (Claim b)) _ _ _ found e
      (λ taken t _ _ _ so may. clash (is_free (s.block b).state) (ap is_free (sym so.1) ∙ (and_parts (nat_lt b t.blocks) _ may).1) taken)
      (λ _ e. done (Forbids (Claim b)) found e))
  event-forbids (Begin p) found e =
      on (Forbids (Begin p)) _ _ _ found e
      (λ _ t _ _ _ so may. clash _ (and_parts (is_place t p) _ may).0 so)
      (λ _ e.
      on (Forbids (Begin p)) _ _ _ found e
      (λ none t sound_t _ hand_t so may. clash _ (claimed s p (StartOwed h) (sym so.1 ∙ start-stands t sound_t h hand_t p (and_parts (is_place t p) _ may).1) hand) none)
      (λ _ e. done (Forbids (Begin p)) found e))
  event-forbids (Await p nodes) found e =
      on (Forbids (Await p nodes)) _ _ _ found e
      (λ _ t _ _ _ so may. clash _ (and_parts (is_place t p) _ may).0 so)
      (λ _ e.
      leave-forbids (Await p nodes) p _ found e (λ t may. (and_parts (may_leave_node (t.view h) (name_at t p)) _ (and_parts (is_place t p) _ may).1).0)
      (λ e.
      on (Forbids (Await p nodes)) _ _ _ found e
      (λ none t _ _ _ so may. clash _ (and_parts (nat_le 1 (length nodes)) _ (and_parts (may_leave_node (t.view h) (name_at t p)) _ (and_parts (is_place t p) _ may).1).1).0 none)
      (λ _ e.
      on (Forbids (Await p nodes)) _ _ _ found e
      (λ twice t _ _ _ so may. clash _ (and_parts (are_different nodes) _ (and_parts (nat_le 1 (length nodes)) _ (and_parts (may_leave_node (t.view h) (name_at t p)) _ (and_parts (is_place t p) _ may).1).1).1).0 twice)
      (λ _ e t _ _ _ so may. children-forbid p nodes found e t so (and_parts (are_different nodes) _ (and_parts (nat_le 1 (length nodes)) _ (and_parts (may_leave_node (t.view h) (name_at t p)) _ (and_parts (is_place t p) _ may).1).1).1).1))))
  event-forbids (Rest p to) found e =
      on (Forbids (Rest p to)) _ _ _ found e
      (λ _ t _ _ _ so may. clash _ (and_parts (is_place t p) _ may).0 so)
      (λ _ e.
      leave-forbids (Rest p to) p _ found e (λ t may. (and_parts (is_place t p) _ may).1) (λ e. done (Forbids (Rest p to)) found e))
  event-forbids (Take p) found e =
      on (Forbids (Take p)) _ _ _ found e
      (λ _ t _ _ _ so may. clash _ (and_parts (is_place t p) _ may).0 so)
      (λ _ e.
      on (Forbids (Take p)) _ _ _ found e
      (λ none t _ _ _ so may. taken-clash t p (control_at t (name_at t p)) refl (and_parts (is_place t p) _ may).1 so.1 none)
      (λ _ e. done (Forbids (Take p)) found e))
  event-forbids (Finish p) found e =
      on (Forbids (Finish p)) _ _ _ found e
      (λ _ t _ _ _ so may. clash _ (and_parts (is_place t p) _ may).0 so)
      (λ _ e.
      leave-forbids (Finish p) p _ found e (λ t may. (and_parts (may_leave_node (t.view h) (name_at t p)) _ (and_parts (is_place t p) _ may).1).0)
      (λ e.
      on (Forbids (Finish p)) _ _ _ found e
      (λ busy t _ _ _ so may.
      let need = (and_parts (may_leave_node (t.view h) (name_at t p)) _ (and_parts (is_place t p) _ may).1).1 in
      clash _ (ap (λ (w : CallbackPhase). not (is_armed w || is_running w)) (sym (same-phase s t p so.1)) ∙ need) busy)
      (λ _ e. done (Forbids (Finish p)) found e)))
  event-forbids (Report p) found e =
      on (Forbids (Report p)) _ _ _ found e
      (λ _ t _ _ _ so may. clash _ (and_parts (is_place t p) _ may).0 so)
      (λ _ e.
      on (Forbids (Report p)) _ _ _ found e
      (λ none t sound_t _ hand_t so may. clash _ (claimed s p (ReportOwed h) (sym so.1 ∙ report-stands t sound_t h hand_t p (and_parts _ _ (and_parts (is_place t p) _ may).1).0) hand) none)
      (λ _ e. parent-forbids p (parent_of s.tree p.node) found refl e))
  event-forbids (Release b) found e =
      on (Forbids (Release b)) _ _ _ found e
      (λ _ t _ _ _ so may. clash _ (and_parts (nat_lt b t.blocks) _ may).0 so)
      (λ _ e.
      on (Forbids (Release b)) _ _ _ found e
      (λ none t sound_t tree hand_t so may.
      let stood = finish-stands t sound_t h hand_t b (and_parts (nat_lt b t.blocks) _ may).1 in
      let root : place_of b (size t - 1) ≡ place_of b (size s - 1) = ap (λ (l : List TreeNode). place_of b (length l - 1)) tree in
      clash _ (claimed s (place_of b (size s - 1)) (HeldFinished h) (sym so.1 ∙ sym (ap (standing_of t) root) ∙ stood) hand) none)
      (λ _ e. done (Forbids (Release b)) found e))
  event-forbids (Arm p) found e =
      on (Forbids (Arm p)) _ _ _ found e
      (λ _ t _ _ _ so may. clash _ (and_parts (is_place t p) _ may).0 so)
      (λ _ e.
      on (Forbids (Arm p)) _ _ _ found e
      (λ none t sound_t _ hand_t so may. clash _ (claimed s p (Held h) (sym so.1 ∙ held-stands t sound_t h hand_t p (and_parts _ _ (and_parts (is_place t p) _ may).1).0) hand) none)
      (λ _ e.
      on (Forbids (Arm p)) _ _ _ found e
      (λ was t _ _ _ so may.
      let need = (and_parts _ _ (and_parts _ _ (and_parts (is_place t p) _ may).1).1).0 in
      clash _ (ap is_never (sym (same-phase s t p so.1)) ∙ need) was)
      (λ _ e.
      on (Forbids (Arm p)) _ _ _ found e
      (λ none t _ tree _ so may.
      let need = (and_parts _ _ (and_parts _ _ (and_parts (is_place t p) _ may).1).1).1 in
      clash (is_some (nearest_of s (name_at s p)))
      (some-for (name_at s p) (name_at t p) (nearest s.tree p.node) ∙ ap (λ (l : List TreeNode). is_some (source_for (name_at t p) (nearest l p.node))) (sym tree) ∙ need) none)
      (λ _ e. done (Forbids (Arm p)) found e))))
  event-forbids (Look at None) found e =
      on (Forbids (Look at None)) _ _ _ found e (λ _ t _ _ _ so may. clash _ may so) (λ _ e. done (Forbids (Look at None)) found e)
  event-forbids (Look at (Some p)) found e =
      on (Forbids (Look at (Some p))) _ _ _ found e
      (λ _ t _ _ _ so may. clash _ (and_parts (is_place t p) _ may).0 so)
      (λ _ e.
      on (Forbids (Look at (Some p))) _ _ _ found e
      (λ other t _ _ _ so may.
      let near = (and_parts _ _ (and_parts (is_place t p) _ may).1).1 in
      clash (at_is at (nearest_source s p)) (ap (at_is at) (sym so.1) ∙ sym (near-test t p at) ∙ near) (sym (near-test s p at) ∙ other))
      (λ _ e.
      on (Forbids (Look at (Some p))) _ _ _ found e (λ _ t _ _ _ so may. clash _ may so.1) (λ _ e. done (Forbids (Look at (Some p))) found e)))
  event-forbids (Request at failure) found e =
      on (Forbids (Request at failure)) _ _ _ found e
      (λ _ t _ _ _ so may. clash _ (and_parts (is_source t at) _ may).0 so)
      (λ _ e.
      on (Forbids (Request at failure)) _ _ _ found e (λ _ t _ _ _ so may. clash _ may so.1) (λ _ e. done (Forbids (Request at failure)) found e))
  event-forbids (Run at p) found e =
      on (Forbids (Run at p)) _ _ _ found e
      (λ _ t _ _ _ so may. clash _ (and_parts (is_place t p) _ may).0 so)
      (λ there e.
      on (Forbids (Run at p)) _ _ _ found e
      (λ some t _ _ hand_t so may. runs-clash t p hand_t some so (and_parts _ _ (and_parts (is_place t p) _ may).1).1)
      (λ idle e.
      on (Forbids (Run at p)) _ _ _ found e (λ no_run. run-forbids at p there idle no_run) (λ _ e. done (Forbids (Run at p)) found e)))
  event-forbids (EndRun p) found e = end_run-forbids (EndRun p) p None found e (λ t may. may) (λ e. done (Forbids (EndRun p)) found e)
  event-forbids (Withdraw p) found e =
      on (Forbids (Withdraw p)) _ _ _ found e
      (λ _ t _ _ _ so may. clash _ (and_parts (is_place t p) _ may).0 so)
      (λ _ e.
      on (Forbids (Withdraw p)) _ _ _ found e
      (λ none t sound_t _ hand_t so may. clash _ (claimed s p (Held h) (sym so.1 ∙ held-stands t sound_t h hand_t p (and_parts _ _ (and_parts (is_place t p) _ may).1).0) hand) none)
      (λ _ e.
      on (Forbids (Withdraw p)) _ _ _ found e
      (λ some t _ _ hand_t so may. runs-clash t p hand_t some so (and_parts _ _ (and_parts _ _ (and_parts (is_place t p) _ may).1).1).0)
      (λ _ e.
      on (Forbids (Withdraw p)) _ _ _ found e
      (λ none t _ _ _ so may.
      let need = (and_parts _ _ (and_parts _ _ (and_parts (is_place t p) _ may).1).1).1 in
      clash _ (ap (λ (w : CallbackPhase). is_armed w || (is_running w || has_run w)) (sym (same-phase s t p so.1)) ∙ need) none)
      (λ _ e. done (Forbids (Withdraw p)) found e))))
  event-forbids (WithdrawOwn p) found e =
      end_run-forbids (WithdrawOwn p) p _ found e (λ t may. (and_parts (may_end_run t h p) _ may).0)
      (λ e.
      on (Forbids (WithdrawOwn p)) _ _ _ found e
      (λ none t sound_t _ hand_t so may. clash _ (claimed s p (Held h) (sym so.1 ∙ held-stands t sound_t h hand_t p (and_parts (may_end_run t h p) _ may).1) hand) none)
      (λ _ e. done (Forbids (WithdrawOwn p)) found e))
  event-forbids (SealScan at) found e =
      on (Forbids (SealScan at)) _ _ _ found e
      (λ _ t _ _ _ so may. clash _ (and_parts (is_source t at) _ may).0 so)
      (λ source e.
      on (Forbids (SealScan at)) _ _ _ found e (λ no_seal. seal-forbids at source no_seal) (λ _ e. done (Forbids (SealScan at)) found e))
  event-forbids (Skip b) found e =
      on (Forbids (Skip b)) _ _ _ found e
      (λ _ t _ _ _ so may. clash _ (and_parts (nat_lt b t.blocks) _ may).0 so)
      (λ block e.
      on (Forbids (Skip b)) _ _ _ found e
      (λ taken t _ _ _ so may. clash (is_free (s.block b).state) (ap is_free (sym so.1) ∙ (and_parts _ _ (and_parts (nat_lt b t.blocks) _ may).1).0) taken)
      (λ free e.
      on (Forbids (Skip b)) _ _ _ found e (λ no_skip. skip-forbids b block free no_skip) (λ _ e. done (Forbids (Skip b)) found e)))
  event-forbids (Rouse p) found e =
      on (Forbids (Rouse p)) _ _ _ found e
      (λ _ t _ _ _ so may. clash _ (and_parts (is_place t p) _ may).0 so)
      (λ _ e.
      on (Forbids (Rouse p)) _ _ _ found e
      (λ other t _ _ _ so may.
      let is = parked-word _ (and_parts _ _ (and_parts (is_place t p) _ may).1).0 in
      clash _ (ap is_parked (claimed s p Parked (sym so.1 ∙ open-stands t p word.Parked is refl))) other)
      (λ _ e.
      on (Forbids (Rouse p)) _ _ _ found e
      (λ neither t _ _ _ so may.
      let need = (and_parts _ _ (and_parts (is_place t p) _ may).1).1 in
      clash (h == 0) (or-first _ _ need so.2) (or-second _ _ neither))
      (λ _ e. done (Forbids (Rouse p)) found e)))
  event-forbids Enter found e =
      on (Forbids Enter) _ _ _ found e
      (λ _.
      cond_both (may_mark_used s h) (InTheMaking h) (BeingRefused h) (Forbids Enter)
      (λ _ t _ _ _ so may.
      let least : 1 ≤ (t.view h).making = leb-true 1 _ so.1 in
      let none : (t.view h).making + (t.view h).refused ≡ 0 = eqb-true _ 0 may in
      omega (arith, least, none))
      (λ _ t _ _ _ so may. clash _ may so.1))
      (λ _ e. done (Forbids Enter) found e)
  event-forbids MarkUsed found e =
      on (Forbids MarkUsed) _ _ _ found e (λ _ t _ _ _ so may. clash _ may so.1) (λ _ e. done (Forbids MarkUsed) found e)
  event-forbids Leave found e =
      on (Forbids Leave) _ _ _ found e (λ _ t _ _ _ so may. clash _ may so.1) (λ _ e. done (Forbids Leave) found e)
  event-forbids Close found e = done (Forbids Close) found e
  event-forbids Join found e = done (Forbids Join) found e
  event-forbids (Seal expected) found e =
      on (Forbids (Seal expected)) _ _ _ found e
      (λ other t _ _ _ so may. clash (may_seal_as s expected) (ap (λ (w : ScopeWord). same_word w expected && may_seal expected) (sym so) ∙ may) other)
      (λ _ e. done (Forbids (Seal expected)) found e)

-- a hand that isn't there, or an event that may not happen, is no step
pub facts-forbid : FactsForbid
facts-forbid s t h event found sound sound_t tree e so =
    on (λ (fact : Fact). IsSo t fact → is_step t (move h event) ≡ false) _ _ _ found e
    (λ _ none. no_left (nat_lt h t.hands) (may_happen t h event) none)
    (λ hand e so.
    either (nat_lt h t.hands)
    (λ hand_t. no_right (nat_lt h t.hands) (may_happen t h event)
    (false_from_ne_true (may_happen t h event) (λ may. event-forbids s h hand sound event found e t sound_t tree hand_t so may)))
    (λ none. no_left (nat_lt h t.hands) (may_happen t h event) none))
    so
