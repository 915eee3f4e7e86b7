-- What a reason says is so in the state.
use Rattle.std.proofs.Common.{◌≡◌, ℕ, zero, suc, ◌+◌, ◌-◌, ◌<◌, ◌≤◌, Bool, true, false, not, ◌&&◌, ◌||◌, List, [], ◌∷◌, length, Option, None, Some, refl, sym, ap, ◌∙◌, subst, arith}
use Rattle.std.specs.Prelude.{is_some, nat_lt, nat_le, ◌==◌}
use Rattle.std.proofs.lemmas.Bool.{and_parts, and_from, cond_both, lt-ltb, ltb-true, both_ways}
use Rattle.common_lemmas.specs.Lists.{are_different}
use Rattle.common_lemmas.proofs.Bool.{either}
use Rattle.life_rules.specs.declared.event.Event.{Event}
use Rattle.life_rules.specs.declared.event.Event.TheVariants.{Claim, Begin, Await, Rest, Take, Finish, Report, Release, Arm, Look, Request, Run, EndRun, Withdraw, WithdrawOwn, SealScan, Skip, Rouse, Enter, MarkUsed, Leave, Close, Join, Seal}
use Rattle.life_rules.specs.declared.event.Place.{Place}
use Rattle.life_rules.specs.declared.event.SourceAt.TheVariants.{Scope, At}
use Rattle.life_rules.specs.ScopeSteps.{may_mark_used}
use Rattle.life_rules.specs.Sound.{Sound}
use Rattle.life_rules.specs.States.{State, size, is_place, name_at}
use Rattle.life_rules.specs.StopSteps.{source_of}
use Rattle.life_rules.specs.Scans.{is_nearest}
use Rattle.node_tree.specs.declared.node.TreeNode.{TreeNode}
use Rattle.node_tree.specs.Tree.{IsTree, is_child, is_root, parent_of}
use Rattle.life_kept.proofs.Trees.{child-within, child-one, parent-child, parent-above, root-orphan}
use Rattle.step_reasons.specs.declared.fact.Fact.{Fact}
use Rattle.step_reasons.specs.declared.fact.Fact.TheVariants.{InTheMaking, BeingRefused}
use Rattle.step_reasons.specs.Laws.{ReasonsAreSo}
use Rattle.step_reasons.specs.LifeReasons.{leave_reason, children_reason, parent_reason, stands}
use Rattle.step_reasons.specs.Reasons.{event_reason, reason_of}
use Rattle.step_reasons.specs.Scanning.{place_of}
use Rattle.step_reasons.specs.So.{IsSo}
use Rattle.step_reasons.specs.StopReasons.{end_run_reason}
use Rattle.step_reasons.proofs.Facts.{scans-place, scan-so}
use Rattle.step_reasons.proofs.Passing.{on, done, no_left, no_right}

-- the parent of a node is a node
pub parent-within : (tree : List TreeNode) → IsTree tree → (n q : ℕ) → n < length tree → parent_of tree n ≡ Some q → q < length tree
parent-within tree is n q below parent =
    let child : is_child tree q n ≡ true = parent-child tree q n parent in
    either (is_root tree n)
    (λ root. absurd (both_ways (is_child tree q n) (root-orphan tree is q n below root) child))
    (λ other.
    let above = parent-above tree is n below other in
    let same : above.0 ≡ q = child-one tree above.0 q n above.1 child in
    omega (arith, above.3, same))

-- of two tests none holds
neither-left : (a b : Bool) → (a || b) ≡ false → a ≡ false
neither-left true b e = cc
neither-left false b e = refl

module _ (s : State) (h : ℕ) (hand : nat_lt h s.hands ≡ true) (sound : Sound s) where
  -- a node of the tree is a place of each block that is there
  below-there : (p : Place) (n : ℕ) → is_place s p ≡ true → n < size s → is_place s (place_of p.block n) ≡ true
  below-there p n there l = and_from (nat_lt p.block s.blocks) (nat_lt n (size s)) (and_parts (nat_lt p.block s.blocks) _ there).0 (lt-ltb n (size s) l)

  leave-so : (p : Place) (rest : Option Fact) (found : Fact) → is_place s p ≡ true → leave_reason s h p rest ≡ Some found → (rest ≡ Some found → IsSo s found) → IsSo s found
  leave-so p rest found there e later =
      on (IsSo s) _ _ _ found e (λ _. (there, refl)) (λ _ e.
      on (IsSo s) _ _ _ found e (λ scanning. (hand, scans-place s h p there scanning)) (λ _ e. later e))

  children-so : (p : Place) (nodes : List ℕ) (found : Fact) → is_place s p ≡ true → children_reason s p nodes ≡ Some found → IsSo s found
  children-so p [] found there e = done (IsSo s) found e
  children-so p (n ∷ ns) found there e =
      on (IsSo s) _ _ _ found e (λ other. (there, other)) (λ child e.
      on (IsSo s) _ _ _ found e (λ _. (below-there p n there (child-within s.tree p.node n child), refl)) (λ _ e.
      children-so p ns found there e))

  parent-so : (p : Place) (parent : Option ℕ) (found : Fact) → is_place s p ≡ true → ((q : ℕ) → parent ≡ Some q → q < size s) → parent_reason s h p parent ≡ Some found → IsSo s found
  parent-so p None found there within e = let P : Fact → Type 0 = IsSo s in
      let same : stands s p ≡ found = cc in
      subst P same (there, refl)
  parent-so p (Some q) found there within e =
      on (IsSo s) _ _ _ found e (λ scanning. (hand, scans-place s h (place_of p.block q) (below-there p q there (within q refl)) scanning))
      (λ _ e. done (IsSo s) found e)

  end_run-so : (p : Place) (rest : Option Fact) (found : Fact) → end_run_reason s h p rest ≡ Some found → (is_place s p ≡ true → rest ≡ Some found → IsSo s found) → IsSo s found
  end_run-so p rest found e later =
      on (IsSo s) _ _ _ found e (λ f. f) (λ there e.
      on (IsSo s) _ _ _ found e (λ _. (there, refl)) (λ _ e.
      on (IsSo s) _ _ _ found e (λ scanning. (hand, scans-place s h p there scanning)) (λ _ e. later there e)))

  -- the root of a block that is there
  root-there : (b : ℕ) → nat_lt b s.blocks ≡ true → is_place s (place_of b (size s - 1)) ≡ true
  root-there b block = and_from (nat_lt b s.blocks) (nat_lt (size s - 1) (size s)) block (lt-ltb (size s - 1) (size s) (omega (arith, sound.tree.some)))

  -- what an event needs first and doesn't find
  event-so : (event : Event) (found : Fact) → event_reason s h event ≡ Some found → IsSo s found
  event-so (Claim b) found e =
      on (IsSo s) _ _ _ found e (λ f. f) (λ block e.
      on (IsSo s) _ _ _ found e (λ _. (block, refl)) (λ _ e. done (IsSo s) found e))
  event-so (Begin p) found e =
      on (IsSo s) _ _ _ found e (λ f. f) (λ there e.
      on (IsSo s) _ _ _ found e (λ _. (there, refl)) (λ _ e. done (IsSo s) found e))
  event-so (Await p nodes) found e =
      on (IsSo s) _ _ _ found e (λ f. f) (λ there e.
      leave-so p _ found there e (λ e.
      on (IsSo s) _ _ _ found e (λ _. tt) (λ _ e.
      on (IsSo s) _ _ _ found e (λ _. tt) (λ _ e.
      children-so p nodes found there e))))
  event-so (Rest p to) found e =
      on (IsSo s) _ _ _ found e (λ f. f) (λ there e.
      leave-so p _ found there e (λ e. done (IsSo s) found e))
  event-so (Take p) found e =
      on (IsSo s) _ _ _ found e (λ f. f) (λ there e.
      on (IsSo s) _ _ _ found e (λ _. (there, refl)) (λ _ e. done (IsSo s) found e))
  event-so (Finish p) found e =
      on (IsSo s) _ _ _ found e (λ f. f) (λ there e.
      leave-so p _ found there e (λ e.
      on (IsSo s) _ _ _ found e (λ _. (there, refl)) (λ _ e. done (IsSo s) found e)))
  event-so (Report p) found e =
      on (IsSo s) _ _ _ found e (λ f. f) (λ there e.
      on (IsSo s) _ _ _ found e (λ _. (there, refl)) (λ _ e.
      parent-so p (parent_of s.tree p.node) found there
      (λ q is. parent-within s.tree sound.tree p.node q (ltb-true p.node (size s) (and_parts (nat_lt p.block s.blocks) _ there).1) is) e))
  event-so (Release b) found e =
      on (IsSo s) _ _ _ found e (λ f. f) (λ block e.
      on (IsSo s) _ _ _ found e (λ _. (root-there b block, refl)) (λ _ e. done (IsSo s) found e))
  event-so (Arm p) found e =
      on (IsSo s) _ _ _ found e (λ f. f) (λ there e.
      on (IsSo s) _ _ _ found e (λ _. (there, refl)) (λ _ e.
      on (IsSo s) _ _ _ found e (λ _. (there, refl)) (λ _ e.
      on (IsSo s) _ _ _ found e (λ _. (there, refl)) (λ _ e. done (IsSo s) found e))))
  event-so (Look at None) found e =
      on (IsSo s) _ _ _ found e (λ f. f) (λ _ e. done (IsSo s) found e)
  event-so (Look at (Some p)) found e =
      on (IsSo s) _ _ _ found e (λ f. f) (λ there e.
      on (IsSo s) _ _ _ found e (λ _. (there, refl)) (λ near e.
      on (IsSo s) _ _ _ found e
      (λ f. (hand, no_right (is_place s p) _ (no_left ((s.view h).unlooked (name_at s p)) (is_nearest s (source_of s at) (name_at s p)) f)))
      (λ _ e. done (IsSo s) found e)))
  event-so (Request at failure) found e =
      on (IsSo s) _ _ _ found e (λ f. f) (λ _ e.
      on (IsSo s) _ _ _ found e (λ f. (hand, f)) (λ _ e. done (IsSo s) found e))
  event-so (Run at p) found e =
      on (IsSo s) _ _ _ found e (λ f. f) (λ there e.
      on (IsSo s) _ _ _ found e (λ _. (there, refl)) (λ _ e.
      on (IsSo s) _ _ _ found e (λ _. scan-so s h at hand) (λ _ e. done (IsSo s) found e)))
  event-so (EndRun p) found e = end_run-so p None found e (λ _ e. done (IsSo s) found e)
  event-so (Withdraw p) found e =
      on (IsSo s) _ _ _ found e (λ f. f) (λ there e.
      on (IsSo s) _ _ _ found e (λ _. (there, refl)) (λ _ e.
      on (IsSo s) _ _ _ found e (λ _. (there, refl)) (λ _ e.
      on (IsSo s) _ _ _ found e (λ _. (there, refl)) (λ _ e. done (IsSo s) found e))))
  event-so (WithdrawOwn p) found e =
      end_run-so p _ found e (λ there e.
      on (IsSo s) _ _ _ found e (λ _. (there, refl)) (λ _ e. done (IsSo s) found e))
  event-so (SealScan at) found e =
      on (IsSo s) _ _ _ found e (λ f. f) (λ _ e.
      on (IsSo s) _ _ _ found e (λ _. scan-so s h at hand) (λ _ e. done (IsSo s) found e))
  event-so (Skip b) found e =
      on (IsSo s) _ _ _ found e (λ f. f) (λ block e.
      on (IsSo s) _ _ _ found e (λ _. (block, refl)) (λ _ e.
      on (IsSo s) _ _ _ found e (λ _. scan-so s h Scope hand) (λ _ e. done (IsSo s) found e)))
  event-so (Rouse p) found e =
      on (IsSo s) _ _ _ found e (λ f. f) (λ there e.
      on (IsSo s) _ _ _ found e (λ _. (there, refl)) (λ _ e.
      on (IsSo s) _ _ _ found e (λ f. (hand, there, neither-left _ _ f)) (λ _ e. done (IsSo s) found e)))
  event-so Enter found e =
      on (IsSo s) _ _ _ found e
      (λ f. cond_both (may_mark_used s h) (InTheMaking h) (BeingRefused h) (IsSo s) (λ t. (hand, t)) (λ u. (hand, f, u)))
      (λ _ e. done (IsSo s) found e)
  event-so MarkUsed found e =
      on (IsSo s) _ _ _ found e (λ f. (hand, f)) (λ _ e. done (IsSo s) found e)
  event-so Leave found e =
      on (IsSo s) _ _ _ found e (λ f. (hand, f)) (λ _ e. done (IsSo s) found e)
  event-so Close found e = done (IsSo s) found e
  event-so Join found e = done (IsSo s) found e
  event-so (Seal expected) found e =
      on (IsSo s) _ _ _ found e (λ _. refl) (λ _ e. done (IsSo s) found e)

pub reasons-so : ReasonsAreSo
reasons-so s h event found sound e =
    on (IsSo s) _ _ _ found e (λ f. f) (λ hand e. event-so s h hand sound event found e)
