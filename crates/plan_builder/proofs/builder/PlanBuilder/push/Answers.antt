use Rattle.std.proofs.Common.{◌≡◌, ℕ, ◌+◌, ◌<◌, ◌≤◌, [], ◌∷◌, ◌++◌, length, List, None, arith, sym, ap, subst, ◌∙◌}
use Rattle.std.specs.Prelude.{All, get_or, vec_len}
use Rattle.plan_rules.specs.declared.node.Node.{Node}
use Rattle.plan_rules.specs.Children.{named_by}
use Rattle.plan_shape.specs.Children.{part_count}
use Rattle.plan_shape.specs.Added.{number_of, parts_of, with_node}
use Rattle.plan_shape.specs.Depths.{depth_of, depth_over}
use Rattle.plan_shape.specs.Refusals.{used_child, fault_of}
use Rattle.plan_builder.specs.declared.position.Position.{Position}
use Rattle.plan_builder.specs.Positions.{IsForestWith, Gains}
use Rattle.plan_builder.proofs.RefusalLemmas.{allowed, lawful, front_within, back_within}
use Rattle.plan_builder.proofs.TableLemmas.{Tables, forest_with_more}
use Rattle.plan_builder.proofs.builder.PlanBuilder.push.Goals as goal

-- the named children can be taken
unused_children : (nodes : List Node) (node : Node) (front back : List ℕ) → fault_of nodes node ≡ None →
    named_by node ≡ front ++ back → used_child nodes (front ++ back) ≡ None
unused_children nodes node front back fine names =
    ap (used_child nodes) (sym names)
    ∙ (allowed nodes (named_by node) (part_count node) (lawful nodes node fine).1).unused

longer : (xs : List ℕ) (m n : ℕ) → m ≤ n → All (λ c. c < m) xs → All (λ c. c < n) xs
longer xs m n l h k d within = let below : get_or xs k d < m = h k d within in omega arith

-- each node of the builder has a position
as_many : (nodes now : List Node) (old : List Position) (len : ℕ) → nodes ≡ now → length old ≡ length nodes →
    len ≡ length old → length now ≤ len
as_many nodes now old len same as_long is = let e = ap length same in omega arith

pub append_positions-requires-clause-front : goal.append_positions-requires-clause-front
append_positions-requires-clause-front c =
    let now = c.args.self.now in
    longer c.named.result.0.now (length now) (vec_len c.reserve.new.positions)
    (as_many c.self.inside.nodes.items now c.self.inside.positions.items _ c.self.view_is c.self.invariant.as_long
    (omega (arith, c.reserve.new.positions.ok.0, ap length c.in-Ok.ensures.positions)))
    (front_within now c.named.result.0.now c.named.result.1.now
    (unused_children now c.args.node c.named.result.0.now c.named.result.1.now c.requires.allowed c.named.ensures))

pub append_positions-requires-clause-back : goal.append_positions-requires-clause-back
append_positions-requires-clause-back c =
    let now = c.args.self.now in
    longer c.named.result.1.now (length now) (vec_len c.reserve.new.positions)
    (as_many c.self.inside.nodes.items now c.self.inside.positions.items _ c.self.view_is c.self.invariant.as_long
    (omega (arith, c.reserve.new.positions.ok.0, ap length c.in-Ok.ensures.positions)))
    (back_within now c.named.result.0.now c.named.result.1.now
    (unused_children now c.args.node c.named.result.0.now c.named.result.1.now c.requires.allowed c.named.ensures))

pub invariant_of-self-2 : goal.invariant_of-self-2
invariant_of-self-2 c =
    let nodes : List Node = c.self.inside.nodes.items in
    let node : Node = c.args.node in
    let old : List Position = c.self.inside.positions.items in
    let new : List Position = c.append_positions.new.positions.items in
    let parts = c.part_count-parts.result in
    let depth = c.args.depth in
    let count : parts ≡ part_count node = c.part_count-parts.ensures in
    let number : c.len.result + parts ≡ number_of nodes node =
    omega (arith, count, c.len.ensures, c.reserve.new.nodes.ok.0, ap length c.in-Ok.ensures.nodes) in
    let made : c.append_node.new.nodes.items ≡ with_node nodes node =
    c.append_node.ensures
    ∙ ap (λ ns. ns ++ (parts_of (c.len.result + parts) parts ++ node ∷ [])) c.in-Ok.ensures.nodes
    ∙ ap (λ b. nodes ++ (parts_of b parts ++ node ∷ [])) number
    ∙ ap (λ k. nodes ++ (parts_of (number_of nodes node) k ++ node ∷ [])) count in
    let from_old : Gains old new (c.named.result.0.now ++ c.named.result.1.now) (c.len.result + parts) parts depth =
    subst (λ ps. Gains ps new (c.named.result.0.now ++ c.named.result.1.now) (c.len.result + parts) parts depth)
    c.in-Ok.ensures.positions c.append_positions.ensures in
    let by_name : Gains old new (named_by node) (c.len.result + parts) parts depth =
    subst (λ cs. Gains old new cs (c.len.result + parts) parts depth) (sym c.named.ensures) from_old in
    let by_number : Gains old new (named_by node) (number_of nodes node) parts depth =
    subst (λ n. Gains old new (named_by node) n parts depth) number by_name in
    let tables : Tables nodes node old new depth = record {
      fresh = record {
        forest = c.self.invariant.forest;
        allowed = ap (λ ns. fault_of ns node) c.self.view_is ∙ c.requires.allowed;
        conditions = c.requires.conditions;
      };
      kept = c.self.invariant;
      gains = subst (λ k. Gains old new (named_by node) (number_of nodes node) k depth) count by_number;
      depth_is = c.requires.depth ∙ ap (λ ns. depth_over (depth_of ns) (named_by node)) (sym c.self.view_is);
    } in
    subst (λ ns. IsForestWith ns new) (sym made) (forest_with_more nodes node old new depth tables)
