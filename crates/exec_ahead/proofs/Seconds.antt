-- The second child of an `ahead` is its only one in the table's tree.
use Rattle.std.specs.Prelude.{Contains, ◌==◌}
use Rattle.std.proofs.Common.{◌≡◌, ℕ, zero, suc, true, false, [], ◌∷◌, Some, refl, sym, ap, ◌∙◌, subst, arith}
use Rattle.std.proofs.lemmas.Bool.{eq-eqb, false≢true}
use Rattle.std.proofs.lemmas.Option.{same_Some}
use Rattle.life_rules.specs.declared.event.Name.{Name}
use Rattle.node_tree.specs.Tree.{is_child}
use Rattle.plan_rules.specs.declared.node.Node.TheVariants.{Ahead}
use Rattle.plan_kinds.proofs.Trees.{trees-show}
use Rattle.plan_shape.specs.Blueprint.{Blueprint}
use Rattle.plan_shape.specs.PlanTree.{tree_of}
use Rattle.table_steps.specs.Views.{Board}
use Rattle.home_items.proofs.Standing.{second-differs}
use Rattle.step_parts.specs.Takes.{IsOnlyChild}
use Rattle.exec_recv.specs.Sites.{plan_at, node_at, IsSite}

pub second-among : (first second : ℕ) → Contains (first ∷ second ∷ []) second
second-among first second = (1, omega arith, refl)

only-second : (first second n : ℕ) → Contains (first ∷ second ∷ []) n → (first == n) ≡ false → second ≡ n
only-second first second n (zero, within, is) apart = absurd (false≢true (sym apart ∙ eq-eqb first n is))
only-second first second n (suc zero, within, is) apart = is
only-second first second n (suc (suc k), within, is) apart = absurd (omega (arith, within))

pub ahead-only : (board : Board Blueprint) (x : Name) (first second : ℕ) → IsSite board → node_at board x ≡ Some (Ahead first second) →
    IsOnlyChild board x (Some second)
ahead-only board x first second site at =
    let shows = (trees-show (plan_at board) site.over.is_plan).each x.node (Ahead first second) at in
    let tree : tree_of (plan_at board).nodes ≡ board.frame.tree = sym site.over.tree in
    let different = (site.over.is_plan.forest.each x.node (Ahead first second) at).distinct in
    record {
      is = λ n names.
          subst (λ k. is_child board.frame.tree x.node k ≡ true) (same_Some second n names)
          (subst (λ t. is_child t x.node second ≡ true) tree
          ((shows.children second).1 (second-among first second, second-differs first second different)));
      only = λ n below.
          let among = (shows.children n).0 (subst (λ t. is_child t x.node n ≡ true) (sym tree) below) in
          ap (λ k. Some k) (only-second first second n among.0 among.1);
    }
