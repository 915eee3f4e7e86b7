-- A step goes on after a call that keeps its node, and what ends from there began where the node was taken up.
use Rattle.std.proofs.Common.{◌≡◌, ℕ, Bool, true, false, refl, ◌∙◌}
use Rattle.std.specs.Prelude.{Option, Some, None, IfSome}
use Rattle.std.proofs.lemmas.Bool.{both_ways}
use Rattle.common_lemmas.proofs.Bool.{either}
use Rattle.life_rules.specs.declared.event.Name.{Name}
use Rattle.node_tree.specs.Tree.{is_child}
use Rattle.plan_shape.specs.Blueprint.{Blueprint}
use Rattle.table_steps.specs.Seats.{Seated}
use Rattle.table_steps.specs.Views.{Board, IsHandOf, Stays}
use Rattle.op_slot.proofs.Staying.{stays-here, stays-on}
use Rattle.home_items.specs.declared.entry.Entry.{Entry}
use Rattle.home_items.specs.declared.item.Item.{Item}
use Rattle.home_items.specs.Bounds.{least_of}
use Rattle.home_items.specs.Parcels.{Delivery}
use Rattle.exec_recv.specs.declared.next.Next.{Next}
use Rattle.exec_recv.specs.Nexts.{IsStepped}
use Rattle.exec_recv.specs.Seats.{HandSeat}
use Rattle.exec_recv.specs.Sites.{Steps}
use Rattle.step_parts.specs.Heard.{has_heard, MaySee}
use Rattle.step_parts.specs.Midway.{Ready, KeepsOthers, KeepsReady, ChangesHomes}
use Rattle.step_parts.specs.Stepping.{Stepping}
use Rattle.step_parts.specs.Takes.{IsOpenWith, IsOpen, IsTaken, Keeps, HasParcel}
use Rattle.step_parts.proofs.Frames.{others-here, others-on, keeps-here, keeps-on, stepped-after, midway-none, ready-start}

-- where a hand heard of no request, it had heard of none before
pub unheard-before : (board : Board Blueprint) (x : Name) (m m' : Seated Item Entry) → KeepsReady board x m m' →
    has_heard board x m' ≡ false → has_heard board x m ≡ false
unheard-before board x m m' keeps none =
    either (has_heard board x m) (λ t. absurd (both_ways (has_heard board x m') none (keeps.heard t))) (λ f. f)

pub see-after : (board : Board Blueprint) (x : Name) (saw : Bool) (m m' : Seated Item Entry) → KeepsReady board x m m' → MaySee board x saw m →
    MaySee board x saw m'
see-after board x saw m m' keeps may none = may (unheard-before board x m m' keeps none)

module _ (board : Board Blueprint) (t : Stepping) where
  pub keeps-same : (hand : HandSeat) → IsHandOf board hand → Keeps board t hand hand
  keeps-same hand is = record { stays = stays-here board hand is; ready = keeps-here board t.name hand.me }

  pub keeps-then : (old between new : HandSeat) → Keeps board t old between → Keeps board t between new → Keeps board t old new
  keeps-then old between new first next =
      record {
        stays = stays-on board old between new first.stays next.stays;
        ready = keeps-on board t.name old.me between.me new.me first.ready next.ready;
      }

  -- what ends there began where the node was taken up
  pub steps-on : (old new : HandSeat) (stays : Stays board old new) → IsTaken board t old → (next : Next) → IsStepped board t.name old.me new.me next →
      Steps board t.name next t.from new
  steps-on old new stays is next stepped =
      record {
        stays = stays-on board t.from old new is.stays stays;
        stepped = stepped-after board t.name t.from.me old.me new.me is.beside next stepped;
      }

  -- What was so before a call that keeps the node is so after it.
  module _ (old new : HandSeat) (keeps : Keeps board t old new) where
    pub taken-on : IsTaken board t old → IsTaken board t new
    taken-on is =
        record {
          site = is.site;
          stays = stays-on board t.from old new is.stays keeps.stays;
          start_is = is.start_is;
          beside = others-on board t.name t.from.me old.me new.me is.beside keeps.ready.beside;
          ready = record { inside = is.ready.inside; is = keeps.ready.midway t.start is.ready.inside 0 (λ _. None) is.ready.is };
        }

    pub ready-on : (least : ℕ) → Ready board t.name t.start least old.me → Ready board t.name t.start least new.me
    ready-on least ready = record { inside = ready.inside; is = keeps.ready.midway t.start ready.inside least (λ _. None) ready.is }

    pub see-on : (saw : Bool) → MaySee board t.name saw old.me → MaySee board t.name saw new.me
    see-on saw may = see-after board t.name saw old.me new.me keeps.ready may

    pub parcel-on : (parcel : Delivery) → HasParcel board t old.me parcel → HasParcel board t new.me parcel
    parcel-on parcel has =
        record {
          ready = ready-on 1 has.ready;
          from = record {
            delivers = has.from.delivers;
            child = has.from.child;
            small = has.from.small;
            saw = see-on parcel.saw has.from.saw;
          };
        }

    pub parcels-on : (kept : Option Delivery) → IfSome kept (HasParcel board t old.me) → IfSome kept (HasParcel board t new.me)
    parcels-on None has = tt
    parcels-on (Some parcel) has = parcel-on parcel has

    -- what ends after it began where the node was taken up
    pub keeps-ends : (next : Next) (last : HandSeat) → IsTaken board t old → Stays board new last → IsStepped board t.name new.me last.me next →
        Steps board t.name next t.from last
    keeps-ends next last is stays stepped = steps-on new last stays (taken-on is) next stepped

  -- also where what lies in its homes was changed before that
  pub steps-changed : (old between new : HandSeat) → IsTaken board t old → Stays board old between → KeepsOthers board t.name old.me between.me →
      (next : Next) → Stays board between new → IsStepped board t.name between.me new.me next → Steps board t.name next t.from new
  steps-changed old between new is stays beside next last stepped =
      record {
        stays = stays-on board t.from between new (stays-on board t.from old between is.stays stays) last;
        stepped = stepped-after board t.name t.from.me between.me new.me
            (others-on board t.name t.from.me old.me between.me is.beside beside) next stepped;
      }

  -- A step whose node and children have this in their homes.
  module _ (inside : Item) (kid : ℕ → Option Item) (hand : HandSeat) (is : IsOpenWith board t inside kid hand) where
    pub opens : IsOpen board t hand
    opens = record { inside = inside; kid = kid; is = is }

    -- all homes of the children are empty
    module _ (none : (n : ℕ) → is_child board.frame.tree t.name.node n ≡ true → kid n ≡ None) where
      pub open-none : IsOpenWith board t inside (λ _. None) hand
      open-none =
          record {
            site = is.site;
            stays = is.stays;
            start_is = is.start_is;
            beside = is.beside;
            midway = midway-none board t.name t.start inside hand.me (least_of inside) kid none is.midway;
          }

  -- then it is taken, and as many are named as the item asks for
  module _ (inside : Item) (hand : HandSeat) (is : IsOpenWith board t inside (λ _. None) hand) where
    pub open-ready : Ready board t.name t.start (least_of inside) hand.me
    open-ready = record { inside = inside; is = is.midway }

    pub open-taken : IsTaken board t hand
    open-taken =
        record {
          site = is.site;
          stays = is.stays;
          start_is = is.start_is;
          beside = is.beside;
          ready = ready-start board t.name t.start hand.me (least_of inside) open-ready;
        }

-- Calls that change what lies in homes follow each other.
module _ (board : Board Blueprint) (x : Name) where
  pub changes-here : (hand : HandSeat) → IsHandOf board hand → ChangesHomes board x hand hand
  changes-here hand is =
      record { stays = stays-here board hand is; beside = others-here board x hand.me; same_held = refl; heard = refl }

  pub changes-on : (old between new : HandSeat) → ChangesHomes board x old between → ChangesHomes board x between new →
      ChangesHomes board x old new
  changes-on old between new first next =
      record {
        stays = stays-on board old between new first.stays next.stays;
        beside = others-on board x old.me between.me new.me first.beside next.beside;
        same_held = next.same_held ∙ first.same_held;
        heard = next.heard ∙ first.heard;
      }
