-- The opening is sound: no block is open, and no hand has done anything.
use Rattle.std.proofs.Common.{◌≡◌, ℕ, ◌*◌, ◌<◌, Bool, false, ◌&&◌, ◌||◌, List, refl, sym, ap, ◌∙◌, arith}
use Rattle.std.proofs.lemmas.Bool.{and_left, and_right, cond-false, both_ways, false≢true}
use Rattle.node_tree.specs.declared.node.TreeNode.{TreeNode}
use Rattle.node_tree.specs.declared.scope_kind.ScopeKind.{ScopeKind}
use Rattle.life_rules.specs.declared.words.ControlWord.{ControlWord}
use Rattle.life_rules.specs.declared.words.ControlWord.TheVariants.{Idle}
use Rattle.life_rules.specs.declared.words.CallbackPhase.TheVariants.{Never}
use Rattle.life_rules.specs.declared.event.Name.{Name}
use Rattle.life_rules.specs.declared.event.SourceRef.{SourceRef}
use Rattle.life_rules.specs.declared.event.SourceRef.TheVariants.{Scope, Node}
use Rattle.node_tree.specs.Tree.{IsTree, is_child}
use Rattle.life_rules.specs.Words.{is_idle, is_held, is_done, is_under_way, pending, is_armed, is_running, has_run, clear}
use Rattle.common_lemmas.specs.Sums.{one}
use Rattle.life_rules.specs.Views.{beside}
use Rattle.life_rules.specs.States.{State, size, is_live, control_at, phase_at, bits_at}
use Rattle.common_lemmas.specs.Sums.{total}
use Rattle.life_rules.specs.Owned.{Fits, weight}
use Rattle.life_rules.specs.Sound.{Sound}
use Rattle.life_rules.specs.Opening.{opening}
use Rattle.common_lemmas.proofs.Totals.{total-zero}

-- numbers of a name that no view has, where its word is idle and its block isn't open
fits-none : (a b c d : ℕ) (live root : Bool) (w : ControlWord) → a ≡ 0 → b ≡ 0 → c ≡ 0 → d ≡ 0 →
    live ≡ false → w ≡ Idle → Fits a b c d live root w
fits-none a b c d live root w a0 b0 c0 d0 dead idle =
    let held : one (is_held w) ≡ 0 = ap (λ v. one (is_held v)) idle in
    let unowed : one (root && (live && is_idle w)) ≡ 0 =
    ap one (and_right root _ (and_left live (is_idle w) dead)) in
    let unfinished : one (is_done w && root) ≡ 0 = ap (λ v. one (is_done v && root)) idle in
    record {
      held = omega (arith, a0, held);
      start = omega (arith, b0);
      root_start = omega (arith, unowed);
      report = omega (arith, c0);
      finish = omega (arith, d0, unfinished);
    }

times-zero : (a : ℕ) {b : ℕ} → b ≡ 0 → a * b ≡ 0
times-zero a e = rw e (omega arith)

module _ (nodes : List TreeNode) (blocks hands : ℕ) (kind : ScopeKind) (most : ℕ)
    (tree : IsTree nodes) (some : 0 < hands) where
  abbrev s : State
  s = opening nodes blocks hands kind most

  dead : (x : Name) → is_live s x ≡ false
  dead x = and_right _ _ (and_right _ _ refl)

  idle : (x : Name) → control_at s x ≡ Idle
  idle x = cond-false _ _ _ (dead x)

  never : (x : Name) → phase_at s x ≡ Never
  never x = cond-false _ _ _ (dead x)

  unrequested : (x : Name) → bits_at s (Node x) ≡ clear
  unrequested x = cond-false _ _ _ (dead x)

  unscanned : (source : SourceRef) → (bits_at s source).scanned ≡ false
  unscanned Scope = refl
  unscanned (Node x) = ap (λ b. b.scanned) (unrequested x)

  nothing : (n : ℕ) → total (λ _. 0) n ≡ 0
  nothing n = total-zero _ n (λ _ _. refl)

  unweighed : (x : Name) → weight s x ≡ 0
  unweighed x =
      let still : one (is_under_way (control_at s x)) ≡ 0 = ap (λ w. one (is_under_way w)) (idle x) in
      omega (arith, still, nothing hands)

  pub sound-opening : Sound (opening nodes blocks hands kind most)
  sound-opening =
      record {
        tree = tree;
        hands = some;
        owned = record {
          names = λ x.
              fits-none _ _ _ _ _ _ _ (nothing hands) (nothing hands) (nothing hands) (nothing hands) (dead x) (idle x);
          unused = λ b n shut. record { control = refl; callback = refl; source = refl };
        };
        counted = λ x.
            ap pending (idle x)
            ∙ sym (total-zero _ (size s) (λ n _. times-zero (one (is_child nodes x.node n)) (unweighed (beside x n))));
        begins = λ x i.
            record { callback = never x; source = unrequested x; children = λ n c. ap is_idle (idle (beside x n)) };
        armed = λ x a. absurd (both_ways _ (ap (λ p. is_armed p || is_running p) (never x)) a);
        runs = record {
          runs = λ x. nothing hands ∙ sym (ap (λ p. one (is_running p)) (never x));
          next = λ h x l r. absurd (omega (arith, r));
          cause = λ x r. absurd (both_ways _ (ap (λ p. is_running p || has_run p) (never x)) r);
        };
        scans = record {
          single = λ source. omega (arith, nothing hands);
          cause = λ h source l scans. absurd (false≢true scans);
          within = λ h x l scans. absurd (false≢true scans);
          sealed = λ source e. absurd (both_ways _ (unscanned source) e);
        };
        requests = record {
          cause = λ x r. absurd (both_ways _ (ap (λ b. b.requested) (unrequested x)) r);
          seen = λ h source l e. absurd (false≢true e);
          noted = λ h x l e. absurd (false≢true e);
        };
        missed = λ x source e a _. absurd (both_ways _ (ap is_armed (never x)) a);
        associations = record {
          count = sym (nothing hands);
          joined = λ j. absurd (false≢true j);
          single = λ h l. omega arith;
          most = omega (arith, nothing hands);
        };
        scope = record { by_hand_0 = refl; scan = λ h l scans. absurd (false≢true scans) };
      }
