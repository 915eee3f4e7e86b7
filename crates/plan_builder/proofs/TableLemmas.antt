-- Where the nodes of a builder with one more stand.
use Rattle.std.proofs.Common.{◌≡◌, ℕ, ◌+◌, ◌-◌, ◌<◌, false, List, length, get_or, Some, None, sym, ap, ◌∙◌, inl, inr, arith}
use Rattle.std.specs.Prelude.{nat_eq}
use Rattle.std.specs.List.{list_any}
use Rattle.std.proofs.lemmas.Bool.{cases_lt, cases_eq, cond-true, cond-false, false_from_ne_true}
use Rattle.common_lemmas.proofs.Bool.{either}
use Rattle.plan_rules.specs.declared.node.Node.{Node}
use Rattle.plan_rules.specs.Children.{named_by}
use Rattle.plan_shape.specs.Children.{part_count, children_of}
use Rattle.plan_shape.specs.Parents.{parent_of}
use Rattle.plan_shape.specs.Depths.{depth_over, depth_of}
use Rattle.plan_shape.specs.Added.{number_of, with_node}
use Rattle.plan_shape.proofs.ListLemmas.{member_all}
use Rattle.plan_shape.proofs.ForestLaws.{no_parent}
use Rattle.plan_builder.specs.declared.position.Position.{Position}
use Rattle.plan_builder.specs.Positions.{IsForestWith, position_of, adopted, Gains}
use Rattle.plan_builder.proofs.AddedLemmas.{length-with_node}
use Rattle.plan_builder.proofs.ForestLemmas.{IsNew, old_child, part_child, new_below, new_parent, kept_parent}
use Rattle.plan_builder.proofs.PlacedLemmas.{depth_of-old, depth_of-part, depth_of-new, forest_more}

-- the positions before and after a call that adds the node
pub record Tables (nodes : List Node) (node : Node) (old new : List Position) (depth : ℕ) : Type 0 where
  pub fresh : IsNew nodes node
  pub kept : IsForestWith nodes old
  pub gains : Gains old new (named_by node) (number_of nodes node) (part_count node) depth
  pub depth_is : depth ≡ depth_over (depth_of nodes) (named_by node)

told_old : (nodes : List Node) (node : Node) (old new : List Position) (depth : ℕ) → Tables nodes node old new depth →
    (n : ℕ) (d : Position) → n < length nodes → get_or new n d ≡ position_of (with_node nodes node) n
told_old nodes node old new depth t n d l =
    let whole : List Node = with_node nodes node in
    let number : ℕ = number_of nodes node in
    let was : Position = position_of nodes n in
    let given : Position = record was { parent = Some number } in
    let named : list_any (nat_eq n) (children_of number node) ≡ list_any (nat_eq n) (named_by node) =
    old_child nodes node n l in
    let as_deep : depth_of whole n ≡ depth_of nodes n = depth_of-old nodes node n l in
    t.gains.before n d (omega (arith, l, t.kept.as_long))
    ∙ ap (adopted (named_by node) number n) (t.kept.told n d l)
    ∙ either (list_any (nat_eq n) (named_by node))
    (λ is.
    let above : parent_of whole n ≡ Some number = new_parent nodes node t.fresh n (named ∙ is) in
    cond-true (list_any (nat_eq n) (named_by node)) given was is
    ∙ (λ i. record { parent = (sym above) i; depth = (sym as_deep) i }))
    (λ isnt.
    let above : parent_of whole n ≡ parent_of nodes n = kept_parent nodes node n (named ∙ isnt) in
    cond-false (list_any (nat_eq n) (named_by node)) given was isnt
    ∙ (λ i. record { parent = (sym above) i; depth = (sym as_deep) i }))

told_part : (nodes : List Node) (node : Node) (old new : List Position) (depth : ℕ) → Tables nodes node old new depth →
    (i : ℕ) (d : Position) → i < part_count node →
    get_or new (length nodes + i) d ≡ position_of (with_node nodes node) (length nodes + i)
told_part nodes node old new depth t i d l =
    let whole : List Node = with_node nodes node in
    let n : ℕ = length nodes + i in
    let at : n ≡ length old + i = omega (arith, t.kept.as_long) in
    let above : parent_of whole n ≡ Some (number_of nodes node) =
    new_parent nodes node t.fresh n (part_child nodes node i l) in
    let leaf : depth_of whole n ≡ 1 = depth_of-part nodes node i l in
    ap (λ k. get_or new k d) at
    ∙ t.gains.part i d l
    ∙ (λ j. record { parent = (sym above) j; depth = (sym leaf) j })

told_new : (nodes : List Node) (node : Node) (old new : List Position) (depth : ℕ) → Tables nodes node old new depth →
    (d : Position) → get_or new (number_of nodes node) d ≡ position_of (with_node nodes node) (number_of nodes node)
told_new nodes node old new depth t d =
    let whole : List Node = with_node nodes node in
    let number : ℕ = number_of nodes node in
    let at : number ≡ length old + part_count node = omega (arith, t.kept.as_long) in
    let other : list_any (nat_eq number) (children_of number node) ≡ false =
    false_from_ne_true (list_any (nat_eq number) (children_of number node))
    (λ h. absurd (omega (arith, member_all (λ c. c < number) (children_of number node) number (new_below nodes node t.fresh) h))) in
    let above : parent_of whole number ≡ None =
    kept_parent nodes node number other ∙ no_parent nodes number t.fresh.forest (omega arith) in
    let deep : depth_of whole number ≡ depth = depth_of-new nodes node t.fresh ∙ sym t.depth_is in
    ap (λ k. get_or new k d) at
    ∙ t.gains.last d
    ∙ (λ j. record { parent = (sym above) j; depth = (sym deep) j })

-- the builder after the call
pub forest_with_more : (nodes : List Node) (node : Node) (old new : List Position) (depth : ℕ) → Tables nodes node old new depth →
    IsForestWith (with_node nodes node) new
forest_with_more nodes node old new depth t =
    let whole = length-with_node nodes node in
    record {
      forest = forest_more nodes node t.fresh;
      as_long = omega (arith, whole, t.gains.as_long, t.kept.as_long);
      told = λ n d l.
          elim (cases_lt n (length nodes)) [
            | inl before ↦ told_old nodes node old new depth t n d before
            | inr from ↦
                elim (cases_eq n (number_of nodes node)) [
                  | inl at ↦
                      ap (λ k. get_or new k d) at
                      ∙ told_new nodes node old new depth t d
                      ∙ ap (position_of (with_node nodes node)) (sym at)
                  | inr other ↦
                      let i : ℕ = n - length nodes in
                      let is : n ≡ length nodes + i = omega (arith, from) in
                      ap (λ k. get_or new k d) is
                      ∙ told_part nodes node old new depth t i d (omega (arith, from, other, l, whole))
                      ∙ ap (position_of (with_node nodes node)) (sym is)
                ]
          ];
    }
