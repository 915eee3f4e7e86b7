-- How many children a node must have begun when it is done, or rests.
use Rattle.std.specs.Prelude.{IsFalse}
use Rattle.std.proofs.Common.{◌≡◌, ℕ, ◌≤◌, min, List, [], ◌∷◌, length, Option, Some, None, refl, sym, ap, ◌∙◌, subst, arith}
use Rattle.exec_value.specs.declared.outcome.Completion.{Completion}
use Rattle.exec_value.specs.declared.outcome.Completion.TheVariants.{Stopped, NoMemory}
use Rattle.plan_rules.specs.declared.node.Node.{Node}
use Rattle.plan_rules.specs.declared.node.Node.TheVariants.{Then, StartsOn, ContinuesOn, Bulk, WhenAll, Input, Just, JustError, JustStopped, Schedule, Delay, ReadEnv, Part}
use Rattle.plan_rules.specs.Children.{named_by}
use Rattle.plan_shape.specs.PlanTree.{is_when_all}
use Rattle.home_items.specs.declared.entry.Entry.{Entry}
use Rattle.home_items.specs.Bounds.{least_at_rest, least_when_done}
use Rattle.home_items.specs.Starts.{IsReceiverStart}
use Rattle.home_items.specs.Parcels.{Delivery}
use Rattle.home_items.proofs.Collecting.{receiver-none}
use Rattle.start_laws.specs.Nodes.{start_node, AwaitsOne}
use Rattle.start_laws.specs.Leaves.{IsLeaf, IsStoppable}
use Rattle.start_laws.specs.Laws.{FewAreBegun}

min-one : (n : ℕ) → min 1 n ≤ 1
min-one n = omega arith

zero-one : 0 ≤ 1
zero-one = omega arith

one-most : (node : Node) (c : Completion) → AwaitsOne node → least_when_done (Some node) c ≤ 1
one-most node NoMemory awaits = zero-one
one-most (StartsOn on x) Stopped awaits = zero-one
one-most (ContinuesOn x on) Stopped awaits = zero-one
one-most (WhenAll xs) c awaits = absurd awaits
one-most (Bulk x job) c awaits = absurd awaits
one-most node c awaits = min-one (length (named_by node))

leaf-none : (node : Node) (c : Completion) → IsLeaf node → least_when_done (Some node) c ≡ 0
leaf-none node NoMemory leaf = refl
leaf-none Input c leaf = refl
leaf-none (Just values) c leaf = refl
leaf-none (JustError name) c leaf = refl
leaf-none JustStopped c leaf = refl
leaf-none (Schedule on) c leaf = refl
leaf-none (Delay turns) c leaf = refl
leaf-none (ReadEnv query) c leaf = refl
leaf-none (Part bulk part) c leaf = refl
leaf-none node c leaf = absurd leaf

stopped-none : (node : Node) → IsStoppable node → least_when_done (Some node) Stopped ≡ 0
stopped-none (Schedule on) stops = refl
stopped-none (Delay turns) stops = refl
stopped-none (StartsOn on x) stops = refl
stopped-none (ContinuesOn x on) stops = refl
stopped-none (WhenAll xs) stops = refl
stopped-none node stops = absurd stops

want-none : (o : Option Node) → least_when_done o NoMemory ≡ 0
want-none None = refl
want-none (Some (Then x job)) = refl
want-none (Some node) = refl

one-one : 1 ≤ 1
one-one = omega arith

rest-none : (node : Node) → IsFalse (is_when_all node) → least_at_rest (Some node) None ≡ 0
rest-none (WhenAll xs) other = cc
rest-none node other = refl

rest-most : (node : Node) (kept : Option Delivery) → AwaitsOne node → least_at_rest (Some node) kept ≤ 1
rest-most (WhenAll xs) kept awaits = absurd awaits
rest-most (Bulk x job) kept awaits = absurd awaits
rest-most node None awaits = zero-one
rest-most node (Some parcel) awaits = one-one

top-most : (kept : Option Delivery) → least_at_rest None kept ≤ 1
top-most None = zero-one
top-most (Some parcel) = one-one

-- the receiver node is no node of the plan
top-none : (start : List Entry) → IsReceiverStart start → start_node start ≡ None
top-none [] is = absurd is
top-none (e ∷ []) is = receiver-none e is
top-none (e ∷ p ∷ above) is = absurd is

pub few-begun : FewAreBegun
few-begun = record {
  one = λ parcel node at awaits.
      subst (λ o. least_when_done o parcel.completion ≤ 1) (sym at) (one-most node parcel.completion awaits);
  leaf = λ parcel node at leaf. ap (λ o. least_when_done o parcel.completion) at ∙ leaf-none node parcel.completion leaf;
  stopped = λ parcel node at stops is.
      ap (λ o. least_when_done o parcel.completion) at ∙ ap (least_when_done (Some node)) is ∙ stopped-none node stops;
  want = λ parcel is.
      ap (least_when_done (start_node parcel.start)) is ∙ want-none (start_node parcel.start);
  idle = λ start node at other. ap (λ o. least_at_rest o None) at ∙ rest-none node other;
  rest = λ start node at awaits kept. subst (λ o. least_at_rest o kept ≤ 1) (sym at) (rest-most node kept awaits);
  top_idle = λ start is. ap (λ o. least_at_rest o None) (top-none start is);
  top_rest = λ start is kept. subst (λ o. least_at_rest o kept ≤ 1) (sym (top-none start is)) (top-most kept);
}
