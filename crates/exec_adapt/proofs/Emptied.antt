-- How the homes of the receiver node's children are emptied, one after the other.
use Rattle.std.specs.Prelude.{IfSome, slice_get}
use Rattle.std.proofs.Common.{◌≡◌, inl, inr, ℕ, ◌+◌, ◌-◌, ◌<◌, true, ◌==◌, length, List, Option, Some, None, refl, sym, ap, ◌∙◌, subst, arith}
use Rattle.std.proofs.lemmas.Bool.{cond-true, cond-false, cases_lt, eq-eqb}
use Rattle.std.proofs.lemmas.Option.{same_Some, slice_get_within}
use Rattle.common_lemmas.proofs.Bool.{either}
use Rattle.node_tree.specs.Tree.{is_child}
use Rattle.plan_rules.specs.declared.node.Node.{Node}
use Rattle.plan_rules.specs.declared.node.Node.TheVariants.{Ahead}
use Rattle.plan_kinds.specs.TreeLaws.{IsTop}
use Rattle.plan_shape.specs.Blueprint.{Blueprint}
use Rattle.table_steps.specs.Views.{Board}
use Rattle.op_slot.specs.Tends.{put_at}
use Rattle.home_items.specs.declared.item.Item.{Item}
use Rattle.home_items.specs.Parcels.{Delivery}
use Rattle.exec_recv.specs.Seats.{HandSeat}
use Rattle.exec_recv.specs.Sites.{node_at, plan_at}
use Rattle.step_parts.specs.Stepping.{Stepping}
use Rattle.step_parts.specs.Takes.{IsOpen, IsOpenWith, TakesChild}
use Rattle.step_parts.proofs.Ended.{changes-on}
use Rattle.exec_adapt.specs.Tops.{spawned_by, EmptiesTops, EmptiesAll}
use Rattle.exec_adapt.proofs.TopPlaces.{root-child, top-child, child-top}

-- what is left when one home more is emptied
put-none : (n : ℕ) (kid : ℕ → Option Item) (k : ℕ) → kid k ≡ None → put_at n None kid k ≡ None
put-none n kid k empty =
    either (n == k) (λ t. cond-true (n == k) None (kid k) t) (λ f. cond-false (n == k) None (kid k) f ∙ empty)

put-here : (n : ℕ) (kid : ℕ → Option Item) → put_at n None kid n ≡ None
put-here n kid = cond-true (n == n) None (kid n) (eq-eqb n n refl)

put-still : (n : ℕ) (kid : ℕ → Option Item) (o : Option ℕ) → IfSome o (λ k. kid k ≡ None) → IfSome o (λ k. put_at n None kid k ≡ None)
put-still n kid None empty = tt
put-still n kid (Some k) empty = put-none n kid k empty

module _ (board : Board Blueprint) (t : Stepping) where
  -- one home was emptied
  pub child-open : (n : ℕ) (below : Option Delivery) (old new : HandSeat) → TakesChild board t n below old new → IsOpen board t old → IsOpen board t new
  child-open n below old new took is = record { inside = is.inside; kid = put_at n None is.kid; is = took.left is.inside is.kid is.is }

  -- the plan's root comes first
  pub empties-root : (root : ℕ) → root ≡ length (plan_at board).nodes - 1 → (below : Option Delivery) (old new : HandSeat) →
      TakesChild board t root below old new → EmptiesTops board t 0 old new
  empties-root root root_is below old new next = record {
    keeps = next.keeps;
    left = λ inside kid is. record {
      left = put_at root None kid;
      is = next.left inside kid is;
      root = subst (λ (n : ℕ). put_at root None kid n ≡ None) root_is (put-here root kid);
      firsts = λ n node less at. absurd (omega (arith, less));
    };
  }

  -- then one node after the other
  module _ (count : ℕ) (node : Node) (at : slice_get (plan_at board).nodes count ≡ Some node) (old middle : HandSeat)
      (was : EmptiesTops board t count old middle) where
    -- of each so many, and of this
    one-more : (left : ℕ → Option Item) →
        ((n : ℕ) (other : Node) → n < count → slice_get (plan_at board).nodes n ≡ Some other → IfSome (spawned_by other) (λ first. left first ≡ None)) →
        IfSome (spawned_by node) (λ first. left first ≡ None) → (n : ℕ) (other : Node) → n < count + 1 →
        slice_get (plan_at board).nodes n ≡ Some other → IfSome (spawned_by other) (λ first. left first ≡ None)
    one-more left earlier this n other less there =
        elim (cases_lt n count) [
          | inl before ↦ earlier n other before there
          | inr past ↦
              let here : n ≡ count = omega (arith, less, past) in
              subst (λ (one : Node). IfSome (spawned_by one) (λ first. left first ≡ None))
              (same_Some node other (sym at ∙ ap (slice_get (plan_at board).nodes) (sym here) ∙ there)) this
        ]

    pub empties-passed : spawned_by node ≡ None → EmptiesTops board t (count + 1) old middle
    empties-passed none = record {
      keeps = was.keeps;
      left = λ inside kid is.
          let e = was.left inside kid is in
          record {
            left = e.left;
            is = e.is;
            root = e.root;
            firsts = one-more e.left e.firsts (subst (λ (o : Option ℕ). IfSome o (λ first. e.left first ≡ None)) (sym none) tt);
          };
    }

    pub empties-more : (first : ℕ) → spawned_by node ≡ Some first → (below : Option Delivery) (new : HandSeat) →
        TakesChild board t first below middle new → EmptiesTops board t (count + 1) old new
    empties-more first spawns below new next = record {
      keeps = changes-on board t.name old middle new was.keeps next.keeps;
      left = λ inside kid is.
          let e = was.left inside kid is in
          record {
            left = put_at first None e.left;
            is = next.left inside e.left e.is;
            root = put-none first e.left (length (plan_at board).nodes - 1) e.root;
            firsts = one-more (put_at first None e.left)
                (λ n other less there. put-still first e.left (spawned_by other) (e.firsts n other less there))
                (subst (λ (o : Option ℕ). IfSome o (λ k. put_at first None e.left k ≡ None)) (sym spawns) (put-here first e.left));
          };
    }

  -- the step goes on still
  pub empties-open : (count : ℕ) (old new : HandSeat) → EmptiesTops board t count old new → IsOpen board t old → IsOpen board t new
  empties-open count old new took is =
      let e = took.left is.inside is.kid is.is in
      record { inside = is.inside; kid = e.left; is = e.is }

  module _ (inside : Item) (kid : ℕ → Option Item) (hand : HandSeat) (is : IsOpenWith board t inside kid hand) (root : node_at board t.name ≡ None) where
    -- after the last node all are empty
    pub empties-all : (new : HandSeat) (took : EmptiesAll board t hand new) (n : ℕ) →
        is_child board.frame.tree t.name.node n ≡ true → (took.left inside kid is).left n ≡ None
    empties-all new took n at =
        let e = took.left inside kid is in
        elim (child-top board t.name is.site root is.midway.place n at) [
          | inl last ↦ ap e.left (omega (arith, last)) ∙ e.root
          | inr spawned ↦
              e.firsts spawned.ahead _ (slice_get_within (plan_at board).nodes spawned.ahead _ spawned.node) spawned.node
        ]

    -- the plan's root, and what an `ahead` spawns, are children of the receiver node
    pub root-below : (n : ℕ) → n ≡ length (plan_at board).nodes - 1 → is_child board.frame.tree t.name.node n ≡ true
    root-below n last =
        subst (λ (k : ℕ). is_child board.frame.tree t.name.node k ≡ true) (sym last) (root-child board t.name is.site root is.midway.place)

    pub spawned-child : (n : ℕ) (node : Node) → slice_get (plan_at board).nodes n ≡ Some node → (first : ℕ) → spawned_by node ≡ Some first →
        is_child board.frame.tree t.name.node first ≡ true
    spawned-child n node at first spawns = top-child board t.name is.site root is.midway.place first (spawns-top (plan_at board).nodes n node at first spawns)
      where
        spawns-top : (nodes : List Node) (n : ℕ) (node : Node) → slice_get nodes n ≡ Some node → (first : ℕ) → spawned_by node ≡ Some first → IsTop nodes first
        spawns-top nodes n (Ahead one second) at first spawns =
            inr
            (record {
              ahead = n;
              second = second;
              node = at ∙ ap (λ (k : ℕ). Some (Ahead k second)) (same_Some one first spawns);
            })
        spawns-top nodes n node at first spawns = cc
