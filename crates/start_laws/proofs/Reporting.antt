-- What the last report of a child is enough for.
use Rattle.std.specs.Prelude.{IsFalse, Contains}
use Rattle.std.proofs.Common.{◌≡◌, ℕ, Bool, false, List, Some, sym, ◌∙◌, subst}
use Rattle.plan_rules.specs.declared.node.Node.{Node}
use Rattle.plan_shape.specs.PlanTree.{is_when_all, tree_of}
use Rattle.home_items.specs.declared.entry.Entry.{Entry}
use Rattle.home_items.specs.Contents.{Rest}
use Rattle.home_items.specs.Entries.{plan_of, node_of}
use Rattle.home_items.specs.Starts.{IsReceiverStart}
use Rattle.home_items.specs.Parcels.{Delivery}
use Rattle.home_items.specs.Fits.{MayRest}
use Rattle.start_laws.specs.Nodes.{IsStartOf, plain_children, MakesImage, MayHaveSeen}
use Rattle.start_laws.specs.Holding.{IsFromBelow, PassesTold}
use Rattle.start_laws.specs.StepLaws.{IsReported, MayEnd, MayKeep, StepsMayEnd}
use Rattle.start_laws.proofs.ImageCases.{images-allowed}
use Rattle.start_laws.proofs.Operands.{jobs-take}
use Rattle.start_laws.proofs.Knowing.{from-plain, from-top}
use Rattle.start_laws.proofs.Putting.{puts-kept, puts-image, goes-down, top-down, seen-below, from-more}

module _ (start : List Entry) (n : ℕ) (told : Bool) (parcel : Delivery) (child : ℕ) (reported : IsReported start n told parcel child) where
  -- what is heard, by the node of the start
  hears-here : PassesTold (tree_of (plan_of start).nodes) (node_of start) told reported.told_children
  hears-here =
      subst (λ k. PassesTold (tree_of (plan_of start).nodes) k told reported.told_children) (sym reported.held.node)
      reported.hears

  -- a parcel that may be kept where no more was told below than above
  keeps-from : (told ≡ false → reported.told_children ≡ false) → IsFromBelow start parcel reported.told_children →
      MayRest (Rest start (Some parcel)) n → MayKeep start n told parcel
  keeps-from calm below rests =
      let from = from-more start parcel reported.told_children told calm below in
      record { from = from; fits = puts-kept start n told reported.held parcel from; rests = rests }

  rests-kept : IsFromBelow start parcel reported.told_children → MayRest (Rest start (Some parcel)) n
  rests-kept below = record { rest = tt; kept = λ small last. below.small small }

  keeps-top : IsReceiverStart start → MayKeep start n told parcel
  keeps-top is =
      let below = from-top start parcel child reported.told_children reported.done is in
      keeps-from (λ none. top-down start is told reported.told_children hears-here ∙ none) below (rests-kept below)

  module _ (node : Node) (at : IsStartOf start node) (other : IsFalse (is_when_all node)) (among : Contains (plain_children node) child) where
    below-here : IsFromBelow start parcel reported.told_children
    below-here = from-plain start parcel child reported.told_children reported.done node at among

    keeps-node : MayKeep start n told parcel
    keeps-node =
        keeps-from (goes-down start node at other told reported.told_children hears-here) below-here (rests-kept below-here)

    seen-here : MayHaveSeen node parcel.saw
    seen-here = seen-below start node at told reported.told_children hears-here parcel below-here

    ends-node : MakesImage node parcel.completion → MayEnd start node n told parcel
    ends-node makes = record {
      takes = jobs-take start node at parcel keeps-node.from.delivers keeps-node.from.child;
      may = images-allowed start node at parcel keeps-node.from.delivers keeps-node.from.child makes seen-here;
      fits = puts-image start n told reported.held node at parcel keeps-node.from makes seen-here;
    }

pub steps-end : StepsMayEnd
steps-end = record {
  ends = λ start node at other n told parcel child reported among.
      ends-node start n told parcel child reported node at other among;
  keeps = λ start node at other n told parcel child reported among.
      keeps-node start n told parcel child reported node at other among;
  top = λ start is n told parcel child reported. keeps-top start n told parcel child reported is;
}
