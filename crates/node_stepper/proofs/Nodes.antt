-- Which node of the plan a name has.
use Rattle.std.proofs.Common.{◌≡◌, ℕ, ◌<◌, ◌≤◌, true, List, length, None, inl, inr, ap, ◌∙◌, sym, subst, arith}
use Rattle.std.proofs.lemmas.Option.{slice_get_past, slice_get_cases}
use Rattle.std.specs.Prelude.{is_some, slice_get}
use Rattle.life_rules.specs.declared.event.Name.{Name}
use Rattle.plan_rules.specs.declared.node.Node.{Node}
use Rattle.plan_shape.specs.Blueprint.{Blueprint}
use Rattle.table_steps.specs.Views.{Board}
use Rattle.exec_recv.specs.Sites.{plan_at, node_at}

some-below : (nodes : List Node) (n : ℕ) → n < length nodes → is_some (slice_get nodes n) ≡ true
some-below nodes n below = elim (slice_get_cases nodes n).1 [
  | inl found ↦ ap is_some found.2
  | inr past ↦ absurd (omega (arith, past.0, below))
]

-- of a plan of so many nodes
module _ (board : Board Blueprint) (x : Name) (plan : Blueprint) (over : plan ≡ plan_at board) (size : ℕ) (is : size ≡ length plan.nodes) where
  pub node-some : x.node < size → is_some (node_at board x) ≡ true
  node-some below =
      subst (λ (p : Blueprint). is_some (slice_get p.nodes x.node) ≡ true) over
      (some-below plan.nodes x.node (omega (arith, is, below)))

  -- the receiver node is none of its nodes
  pub node-none : size ≤ x.node → node_at board x ≡ None
  node-none past =
      subst (λ (p : Blueprint). slice_get p.nodes x.node ≡ None) over
      (slice_get_past plan.nodes x.node (omega (arith, is, past)))
