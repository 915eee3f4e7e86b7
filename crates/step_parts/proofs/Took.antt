-- A node that was taken up: it isn't the receiver node, its start is one of its node, and it may be left with what it has of its child.
use Rattle.std.proofs.Common.{◌≡◌, false, List, Option, Some, None, refl, sym, ap, ◌∙◌, subst}
use Rattle.std.specs.Prelude.{IfSome}
use Rattle.std.specs.Option.{option_map}
use Rattle.node_tree.specs.Tree.{is_root}
use Rattle.plan_rules.specs.declared.node.Node.{Node}
use Rattle.plan_shape.specs.Blueprint.{Blueprint}
use Rattle.table_steps.specs.Views.{Board}
use Rattle.home_items.specs.declared.entry.Entry.{Entry}
use Rattle.home_items.specs.declared.item.Item.{Item}
use Rattle.home_items.specs.Bounds.{least_of}
use Rattle.home_items.specs.Contents.{Rest, Done}
use Rattle.home_items.specs.Items.{parcel_in}
use Rattle.home_items.specs.Parcels.{Delivery}
use Rattle.exec_recv.specs.Seats.{HandSeat}
use Rattle.exec_recv.specs.Sites.{node_at, plan_at}
use Rattle.start_laws.specs.Nodes.{AwaitsOne, IsStartOf}
use Rattle.start_laws.proofs.Bounding.{few-begun}
use Rattle.step_parts.specs.declared.found.Found.{Found}
use Rattle.step_parts.specs.declared.found.Found.TheVariants.{Begun, Back, Again}
use Rattle.step_parts.specs.Leaves.{MayLeave}
use Rattle.step_parts.specs.Midway.{Ready}
use Rattle.step_parts.specs.Stepping.{Stepping}
use Rattle.step_parts.specs.Takes.{parcel_of, below_of, LayAs, IsTaken, HasParcel}
use Rattle.step_parts.proofs.Emptied.{awaits-not-all}
use Rattle.step_parts.proofs.Frames.{ready-less}
use Rattle.step_parts.proofs.Places.{inner-is, start-of}
use Rattle.step_parts.proofs.Telling.{from-keeps}
use Rattle.step_parts.proofs.Wanted.{bare-leaves}

-- A node of the plan that was taken up.
module _ (board : Board Blueprint) (t : Stepping) (hand : HandSeat) (is : IsTaken board t hand) (node : Node) (at : node_at board t.name ≡ Some node) where
  -- it isn't the receiver node
  pub taken-inner : is_root board.frame.tree t.name.node ≡ false
  taken-inner = inner-is board (plan_at board) t.name node is.site.over at

  -- and its start is one of this node
  pub taken-of : IsStartOf t.start node
  taken-of =
      start-of board (plan_at board) t.name node is.site.over at t.start is.ready.inside 0 (λ _. None) hand.me is.site.kinds is.ready.is is.start_is

  -- where it awaits one child at a time it may be left with what it has of that child
  pub taken-leaves : AwaitsOne node → (kept : Option Delivery) → IfSome kept (HasParcel board t hand.me) → MayLeave board t kept hand
  taken-leaves awaits None one =
      bare-leaves board t hand is taken-inner
      (subst (λ k. Ready board t.name t.start k hand.me) (sym (few-begun.idle t.start node taken-of.node_is (awaits-not-all node awaits))) is.ready)
  taken-leaves awaits (Some parcel) one =
      record {
        keep = from-keeps board t hand is parcel
            (ready-less board t.name t.start hand.me 1 (least_of (Rest t.start (Some parcel)))
            (few-begun.rest t.start node taken-of.node_is awaits (Some parcel)) one.ready) one.from;
        rests = record { rest = tt; kept = λ small last. one.from.small small };
      }

-- where no parcel lay in the child's home, what is found of the child is what the node's own kept
pub parcel-own : (found : Found) (start : List Entry) (item : Item) → LayAs found start item → below_of found ≡ None →
    parcel_in item ≡ parcel_of found
parcel-own Begun start item lay none = ap parcel_in lay
parcel-own (Back parcel) start item lay none = cc
parcel-own (Again kept) start item lay none = ap parcel_in lay

pub below-none : (found : Found) (kid : Option Item) → kid ≡ option_map Done (below_of found) → kid ≡ None → below_of found ≡ None
below-none Begun kid lay none = refl
below-none (Back parcel) kid lay none = let full : Some (Done parcel) ≡ None = sym lay ∙ none in cc
below-none (Again kept) kid lay none = refl

-- and where one lay there, that is found
pub parcel-below : (found : Found) (kid : Option Item) (parcel : Delivery) → kid ≡ option_map Done (below_of found) →
    kid ≡ Some (Done parcel) → parcel_of found ≡ Some parcel
parcel-below Begun kid parcel lay full = let none : None ≡ Some (Done parcel) = sym lay ∙ full in cc
parcel-below (Back found) kid parcel lay full = let same : Some (Done found) ≡ Some (Done parcel) = sym lay ∙ full in cc
parcel-below (Again kept) kid parcel lay full = let none : None ≡ Some (Done parcel) = sym lay ∙ full in cc
