-- What a hand may put into the home of a node that it holds.
use Rattle.std.specs.Prelude.{IsFalse, slice_get}
use Rattle.std.specs.Option.{option_map_or}
use Rattle.std.proofs.Common.{◌≡◌, ◌≢◌, ℕ, Bool, false, List, [], ◌∷◌, Option, Some, None, ap, ◌∙◌, subst, arith}
use Rattle.std.proofs.lemmas.Option.{slice_get_within}
use Rattle.exec_value.specs.declared.outcome.Completion.{Completion}
use Rattle.exec_value.specs.declared.outcome.Completion.TheVariants.{NoMemory}
use Rattle.node_tree.specs.declared.node.TreeNode.{TreeNode}
use Rattle.node_tree.specs.Tree.{has_source, is_unstoppable}
use Rattle.plan_rules.specs.declared.node.Node.{Node}
use Rattle.plan_rules.specs.declared.node.Node.TheVariants.{Unstoppable}
use Rattle.plan_kinds.specs.Small.{IsSmall}
use Rattle.plan_kinds.specs.TreeLaws.{ShowsNode}
use Rattle.plan_kinds.proofs.Trees.{trees-show}
use Rattle.plan_shape.specs.PlanTree.{is_when_all, receiver_node, tree_of}
use Rattle.plan_shape.proofs.TreeLemmas.{tree_of-receiver}
use Rattle.common_lemmas.proofs.Bool.{either}
use Rattle.home_items.specs.declared.entry.Entry.{Entry}
use Rattle.home_items.specs.declared.item.Item.{Item}
use Rattle.home_items.specs.Contents.{Start, Rest, Done}
use Rattle.home_items.specs.Entries.{plan_of, node_of, asked_of}
use Rattle.home_items.specs.Starts.{IsReceiverStart}
use Rattle.home_items.specs.Parcels.{Delivery}
use Rattle.home_items.specs.Fits.{FitsHome, MayRest}
use Rattle.home_items.proofs.Fitting.{start-fits, rest-fits, kept-fits, done-fits}
use Rattle.start_laws.specs.Nodes.{start_node, IsStartOf, image_of, MakesImage, MayHaveSeen}
use Rattle.start_laws.specs.Holding.{IsHeld, IsFromBelow, PassesTold}
use Rattle.start_laws.specs.HoldingLaws.{HomesFit, NodesMayRest, RequestsAreTold}
use Rattle.start_laws.proofs.ImageCases.{want-passes}

module _ (start : List Entry) (n : ℕ) (told : Bool) (held : IsHeld start n told) where
  -- what fits the node of the start fits n
  at-node : (item : Item) → FitsHome item (node_of start) told → FitsHome item n told
  at-node item fits = subst (λ k. FitsHome item k told) held.node fits

  pub puts-start : FitsHome (Start start) n told
  puts-start = at-node (Start start) (start-fits start held.kinds told held.calm)

  pub puts-rest : FitsHome (Rest start None) n told
  puts-rest = at-node (Rest start None) (rest-fits start held.kinds told held.calm)

  pub puts-kept : (parcel : Delivery) → IsFromBelow start parcel told → FitsHome (Rest start (Some parcel)) n told
  puts-kept parcel from =
      at-node (Rest start (Some parcel)) (kept-fits start held.kinds told held.calm parcel from.child from.small from.saw)

  pub puts-done : (completion : Completion) (saw : Bool) → (told ≡ false → saw ≡ false) →
      (IsSmall (plan_of start) → completion ≢ NoMemory) →
      FitsHome (Done (record { start = start; completion = completion; saw = saw })) n told
  puts-done completion saw calm small =
      let parcel : Delivery = record { start = start; completion = completion; saw = saw } in
      at-node (Done parcel) (done-fits parcel held.kinds told held.calm small calm)

  pub puts-image : (node : Node) → IsStartOf start node → (parcel : Delivery) → IsFromBelow start parcel told →
      MakesImage node parcel.completion → MayHaveSeen node parcel.saw →
      FitsHome (Done (record {
        start = start;
        completion = image_of node (asked_of start) parcel.completion;
        saw = parcel.saw;
      })) n told
  puts-image node at parcel from makes seen =
      puts-done (image_of node (asked_of start) parcel.completion) parcel.saw from.saw
      (λ small. want-passes.no_other start node at parcel from.delivers from.child makes seen (from.small small))

pub homes-fit : HomesFit
homes-fit = record { start = puts-start; rest = puts-rest; kept = puts-kept; done = puts-done; image = puts-image }

-- a node of the plan isn't the receiver node
node-rests : (start : List Entry) (node : Node) → start_node start ≡ Some node → (kept : Option Delivery) →
    MayRest (Rest start kept) (node_of start)
node-rests start node at kept =
    let within = slice_get_within (plan_of start).nodes (node_of start) node at in
    record { rest = tt; kept = λ small last. absurd (omega (arith, within, last)) }

pub nodes-rest : NodesMayRest
nodes-rest =
    record {
      node = node-rests;
      top = λ start n told parcel from. record { rest = tt; kept = λ small last. from.small small };
    }

module _ (start : List Entry) (node : Node) (at : IsStartOf start node) where
  abbrev tree : List TreeNode
  tree = tree_of (plan_of start).nodes

  shows : ShowsNode tree (node_of start) node
  shows = (trees-show (plan_of start) at.runnable.plan_is).each (node_of start) node at.node_is

  pub goes-down : IsFalse (is_when_all node) → (told told_children : Bool) → PassesTold tree (node_of start) told told_children →
      told ≡ false → told_children ≡ false
  goes-down other told told_children hears none =
      let sourceless : has_source tree (node_of start) ≡ false = shows.source ∙ other in
      either (is_unstoppable tree (node_of start))
      (λ t. hears.shelters sourceless t)
      (λ f. hears.passes sourceless f ∙ none)

pub seen-below : (start : List Entry) (node : Node) → IsStartOf start node → (told told_children : Bool) →
    PassesTold (tree_of (plan_of start).nodes) (node_of start) told told_children →
    (parcel : Delivery) → IsFromBelow start parcel told_children → MayHaveSeen node parcel.saw
seen-below start (Unstoppable x) at told told_children hears parcel from =
    let here = shows start (Unstoppable x) at in
    from.saw (hears.shelters here.source here.unstoppable)
seen-below start node at told told_children hears parcel from = tt

-- the receiver node has no source, and is no `unstoppable`
pub top-down : (start : List Entry) → IsReceiverStart start → (told told_children : Bool) →
    PassesTold (tree_of (plan_of start).nodes) (node_of start) told told_children → told_children ≡ told
top-down [] is told told_children hears = absurd is
top-down (e ∷ p ∷ above) is told told_children hears = absurd is
top-down (e ∷ []) is told told_children hears =
    let tree = tree_of e.plan.nodes in
    let there : slice_get tree e.node ≡ Some receiver_node =
    ap (slice_get tree) is.node ∙ tree_of-receiver e.plan.nodes in
    hears.passes
    (ap (λ o. option_map_or (λ (one : TreeNode). one.source) o false) there)
    (ap (λ o. option_map_or (λ (one : TreeNode). one.unstoppable) o false) there)

pub held-more : (start : List Entry) (n : ℕ) (told more : Bool) → (more ≡ false → told ≡ false) → IsHeld start n told →
    IsHeld start n more
held-more start n told more calm held = record {
  start_is = held.start_is;
  node = held.node;
  kinds = held.kinds;
  calm = λ none. held.calm (calm none);
}

pub from-more : (start : List Entry) (parcel : Delivery) (told more : Bool) → (more ≡ false → told ≡ false) →
    IsFromBelow start parcel told → IsFromBelow start parcel more
from-more start parcel told more calm from = record {
  delivers = from.delivers;
  child = from.child;
  small = from.small;
  saw = λ none. from.saw (calm none);
}

pub requests-told : RequestsAreTold
requests-told = record { calm = goes-down; top = top-down; seen = seen-below; held = held-more; from = from-more }
