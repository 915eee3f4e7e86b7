-- Where lets and their children stand, and whose starts they have.
use Rattle.std.specs.Prelude.{Contains, All, slice_get}
use Rattle.std.proofs.Common.{◌≡◌, ◌⊎◌, ℕ, ◌<◌, ◌==◌, true, false, List, [], ◌∷◌, length, get_or, Option, Some, inl, inr, refl, sym, ◌∙◌, subst, arith}
use Rattle.std.proofs.lemmas.Bool.{eqb-true}
use Rattle.std.proofs.lemmas.List.Elements.{Contains-get_or, Contains-append_left, Contains-append_cases}
use Rattle.common_lemmas.proofs.Bool.{either}
use Rattle.life_rules.specs.declared.event.Name.{Name}
use Rattle.node_tree.specs.Tree.{is_child, has_source, is_unstoppable}
use Rattle.plan_rules.specs.declared.node.Node.{Node}
use Rattle.plan_rules.specs.declared.node.Node.TheVariants.{LetValue, LetError, LetStopped}
use Rattle.plan_rules.specs.Children.{named_by}
use Rattle.plan_shape.specs.Blueprint.{Blueprint}
use Rattle.plan_shape.specs.Children.{children_of}
use Rattle.plan_shape.specs.Forest.{IsForest}
use Rattle.plan_shape.specs.PlanTree.{is_when_all, spawns}
use Rattle.plan_shape.specs.PlanTree as plan_tree
use Rattle.plan_kinds.specs.Built.{IsWhole}
use Rattle.plan_kinds.specs.Runs.{run_by, bodies_of}
use Rattle.plan_kinds.specs.TreeLaws.{ShowsNode}
use Rattle.plan_kinds.proofs.Placing.{no-member, child-no_body, run-named, body-named, named-cases}
use Rattle.plan_kinds.proofs.Plans.{plans-built}
use Rattle.table_steps.specs.Views.{Board}
use Rattle.exec_recv.specs.Sites.{IsSite, node_at, plan_at}
use Rattle.start_laws.specs.Nodes.{plain_children, AwaitsOne}
use Rattle.start_laws.proofs.Pairs.{sole}
use Rattle.step_parts.proofs.Emptied.{awaits-not-all}
use Rattle.step_parts.proofs.Places.{node-shown, source-none}
use Rattle.exec_let.specs.Kinds.{IsLet, IsLetNode, let_child}

let-stoppable : (node : Node) → IsLet node → plan_tree.is_unstoppable node ≡ false
let-stoppable (LetValue x pick xs) is = refl
let-stoppable (LetError x pick xs) is = refl
let-stoppable (LetStopped x pick xs) is = refl
let-stoppable node is = absurd is

let-spawns : (node : Node) → IsLet node → (k : ℕ) → spawns k node ≡ false
let-spawns (LetValue x pick xs) is k = refl
let-spawns (LetError x pick xs) is k = refl
let-spawns (LetStopped x pick xs) is k = refl
let-spawns node is k = absurd is

pub let-awaits : (node : Node) → IsLet node → AwaitsOne node
let-awaits (LetValue x pick xs) is = tt
let-awaits (LetError x pick xs) is = tt
let-awaits (LetStopped x pick xs) is = tt
let-awaits node is = absurd is

pub let-plain : (node : Node) → IsLet node → is_when_all node ≡ false
let-plain node is = awaits-not-all node (let-awaits node is)

one-there : (x : ℕ) → Contains (x ∷ []) x
one-there x = (0, omega arith, refl)

-- its child runs with its arguments, and is the only one that does
pub let-runs : (node : Node) → IsLet node → Contains (plain_children node) (let_child node)
let-runs (LetValue x pick xs) is = one-there x
let-runs (LetError x pick xs) is = one-there x
let-runs (LetStopped x pick xs) is = one-there x
let-runs node is = absurd is

child-run : (node : Node) → IsLet node → Contains (run_by node) (let_child node)
child-run (LetValue x pick xs) is = one-there x
child-run (LetError x pick xs) is = one-there x
child-run (LetStopped x pick xs) is = one-there x
child-run node is = absurd is

run-child : (node : Node) → IsLet node → (k : ℕ) → Contains (run_by node) k → k ≡ let_child node
run-child (LetValue x pick xs) is k among = sole x k among
run-child (LetError x pick xs) is k among = sole x k among
run-child (LetStopped x pick xs) is k among = sole x k among
run-child node is k among = absurd is

no-parts : (node : Node) → IsLet node → (n k : ℕ) → Contains (children_of n node) k → Contains (named_by node) k
no-parts (LetValue x pick xs) is n k among = elim (Contains-append_cases (x ∷ xs) [] k among) [ inl named ↦ named | inr none ↦ no-member k none ]
no-parts (LetError x pick xs) is n k among = elim (Contains-append_cases (x ∷ xs) [] k among) [ inl named ↦ named | inr none ↦ no-member k none ]
no-parts (LetStopped x pick xs) is n k among = elim (Contains-append_cases (x ∷ xs) [] k among) [ inl named ↦ named | inr none ↦ no-member k none ]
no-parts node is n k among = absurd is

let-whole : (nodes : List Node) (node : Node) → IsLet node → IsWhole nodes node → 0 < length (bodies_of node)
let-whole nodes (LetValue x pick xs) is whole = whole
let-whole nodes (LetError x pick xs) is whole = whole
let-whole nodes (LetStopped x pick xs) is whole = whole
let-whole nodes node is whole = absurd is

pub kind-let : (o : Option Node) (node : Node) → o ≡ Some node → IsLetNode o → IsLet node
kind-let o node e kind = subst IsLetNode e kind

-- which is none of the bodies
pub child-apart : (nodes : List Node) → IsForest nodes → (n : ℕ) (node : Node) → IsLet node → slice_get nodes n ≡ Some node →
    Contains (bodies_of node) (let_child node) → ⊥
child-apart nodes forest n node is at among = child-no_body nodes forest n (let_child node) node at (child-run node is) among

-- The let of this name, where the table stands over a plan whose kinds match.
module _ (board : Board Blueprint) (x : Name) (node : Node) (site : IsSite board) (at : node_at board x ≡ Some node) (is : IsLet node) where
  shown : ShowsNode board.frame.tree x.node node
  shown = node-shown board (plan_at board) x node site.over at

  pub let-source : has_source board.frame.tree x.node ≡ false
  let-source = source-none board (plan_at board) x node site.over at (let-plain node is)

  pub stoppable : is_unstoppable board.frame.tree x.node ≡ false
  stoppable = shown.unstoppable ∙ let-stoppable node is

  -- its children are the one and the bodies
  named-below : (k : ℕ) → Contains (named_by node) k → is_child board.frame.tree x.node k ≡ true
  named-below k among = (shown.children k).1 (Contains-append_left (named_by node) _ k among, let-spawns node is k)

  pub child-below : is_child board.frame.tree x.node (let_child node) ≡ true
  child-below = named-below (let_child node) (run-named node (let_child node) (child-run node is))

  pub body-below : (k : ℕ) → Contains (bodies_of node) k → is_child board.frame.tree x.node k ≡ true
  body-below k among = named-below k (body-named node k among)

  pub bodies-below : All (λ k. is_child board.frame.tree x.node k ≡ true) (bodies_of node)
  bodies-below k d within = body-below (get_or (bodies_of node) k d) (Contains-get_or (bodies_of node) k d within)

  pub below-cases : (k : ℕ) → is_child board.frame.tree x.node k ≡ true → (k ≡ let_child node) ⊎ Contains (bodies_of node) k
  below-cases k below =
      elim (named-cases node k (no-parts node is x.node k ((shown.children k).0 below).0)) [
        | inl run ↦ inl (run-child node is k run)
        | inr body ↦ inr body
      ]

  -- there is a body
  pub some-bodies : 0 < length (bodies_of node)
  some-bodies = let-whole (plan_at board).nodes node is ((plans-built (plan_at board) site.over.is_plan).whole x.node node at)

  -- the child isn't a body
  pub child-other : (n : ℕ) → Contains (bodies_of node) n → (let_child node == n) ≡ false
  child-other n among =
      either (let_child node == n)
      (λ t.
      absurd (child-apart (plan_at board).nodes site.over.is_plan.forest x.node node is at
      (subst (Contains (bodies_of node)) (sym (eqb-true (let_child node) n t)) among)))
      (λ f. f)
