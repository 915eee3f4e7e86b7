-- How a step takes what its node keeps of a child out of the node's home.
use Rattle.std.proofs.Common.{◌≡◌, ℕ, ◌≤◌, List, arith, refl, sym, ap, ◌∙◌, subst}
use Rattle.std.specs.Prelude.{Option, Some, None, IfSome}
use Rattle.plan_rules.specs.declared.node.Node.{Node}
use Rattle.plan_rules.specs.declared.node.Node.TheVariants.{Bulk, WhenAll}
use Rattle.plan_shape.specs.Blueprint.{Blueprint}
use Rattle.table_steps.specs.Views.{Board, Stays}
use Rattle.table_steps.specs.Swaps.{HasHome, IsSwapped}
use Rattle.op_slot.proofs.Leaving.{tends-home}
use Rattle.op_slot.proofs.Staying.{stays-on}
use Rattle.home_items.specs.declared.entry.Entry.{Entry}
use Rattle.home_items.specs.declared.item.Item.{Item}
use Rattle.home_items.specs.Bounds.{least_at_rest, least_of}
use Rattle.home_items.specs.Contents.{Start, Rest, Done}
use Rattle.home_items.specs.Fits.{IsItemOf}
use Rattle.home_items.specs.Items.{start_in, parcel_in, saw_in, item_node, GoesOn, without_parcel}
use Rattle.home_items.specs.Parcels.{Delivery, IsDelivery}
use Rattle.start_laws.specs.Nodes.{AwaitsOne, start_node}
use Rattle.exec_recv.specs.Seats.{HandSeat}
use Rattle.step_parts.specs.Heard.{MaySee}
use Rattle.step_parts.specs.Midway.{ChangesHomes}
use Rattle.step_parts.specs.Stepping.{Stepping}
use Rattle.step_parts.specs.Takes.{IsOpenWith, IsOpen, IsTaken, HasParcel, TakesKept}
use Rattle.step_parts.proofs.Changing.{was-is, put-midway}
use Rattle.step_parts.proofs.Ended.{open-taken}
use Rattle.step_parts.proofs.Frames.{others-on, midway-less, ready-at}
use Rattle.step_parts.proofs.Swapping.{swap-changes}
use Rattle.step_parts.proofs.Telling.{kept-from}

-- the node's home can be turned to
pub open-home : (board : Board Blueprint) (t : Stepping) (hand : HandSeat) → IsOpen board t hand → HasHome board.frame.layout hand.me t.name
open-home board t hand is =
    tends-home board.frame t.name hand.me is.is.midway.held (Some is.inside) is.kid is.is.midway.tends

-- less is kept
without-goes : (item : Item) → GoesOn item → GoesOn (without_parcel item)
without-goes (Start start) goes_on = goes_on
without-goes (Rest start kept) goes_on = goes_on
without-goes (Done parcel) goes_on = goes_on

without-start : (item : Item) → start_in (without_parcel item) ≡ start_in item
without-start (Start start) = refl
without-start (Rest start kept) = refl
without-start (Done parcel) = refl

none-least : (o : Option Node) (kept : Option Delivery) → least_at_rest o None ≤ least_at_rest o kept
none-least o None = omega arith
none-least None (Some parcel) = omega arith
none-least (Some (WhenAll children)) (Some parcel) = omega arith
none-least (Some (Bulk child job)) (Some parcel) = omega arith
none-least (Some node) (Some parcel) = omega arith

without-least : (item : Item) → least_of (without_parcel item) ≤ least_of item
without-least (Start start) = omega arith
without-least (Rest start kept) = none-least (item_node (Rest start kept)) kept
without-least (Done parcel) = omega arith

-- What the node kept was taken.
module _ (board : Board Blueprint) (t : Stepping) (was : Item) (old new : HandSeat) (stays : Stays board old new)
    (put : IsSwapped board.frame t.name (Some (without_parcel was)) (Some was) old.me new.me) where
  changes : ChangesHomes board t.name old new
  changes = swap-changes board t.name t.name (Some (without_parcel was)) (Some was) old new stays put

  module _ (inside : Item) (kid : ℕ → Option Item) (is : IsOpenWith board t inside kid old) where
    same : was ≡ inside
    same = was-is board t.name (without_parcel was) was old.me new.me put t.start inside (least_of inside) kid is.midway

    unkept-left : IsOpenWith board t (without_parcel inside) kid new
    unkept-left =
        subst (λ (i : Item). IsOpenWith board t (without_parcel i) kid new) same
        (record {
          site = is.site;
          stays = stays-on board t.from old new is.stays stays;
          start_is = is.start_is;
          beside = others-on board t.name t.from.me old.me new.me is.beside changes.beside;
          midway = midway-less board t.name t.start (without_parcel was) new.me (least_of inside) (least_of (without_parcel was)) kid
              (subst (λ (i : Item). least_of (without_parcel was) ≤ least_of i) same (without-least was))
              (put-midway board t.name (without_parcel was) was old.me new.me put t.start inside (least_of inside) kid is.midway
              (without-goes was (subst (λ (i : Item). GoesOn i) (sym same) is.midway.goes_on))
              (without-start was ∙ ap start_in same ∙ is.midway.inside_is));
        })

  pub takes-kept : (answer : Option Delivery) → answer ≡ parcel_in was → IfSome answer IsDelivery → TakesKept board t answer old new
  takes-kept answer is lawful =
      record {
        keeps = changes;
        lay = λ inside kid lies. ap parcel_in (sym (same inside kid lies)) ∙ sym is;
        left = unkept-left;
        lawful = lawful;
      }

-- A node that keeps a parcel of its child has begun that child, where it awaits one at a time.
pub rests-one : (start : List Entry) (node : Node) → start_node start ≡ Some node → AwaitsOne node → (parcel : Delivery) →
    1 ≤ least_of (Rest start (Some parcel))
rests-one start node at awaits parcel = subst (λ (o : Option Node). 1 ≤ least_at_rest o (Some parcel)) (sym at) (of node awaits)
  where
    of : (n : Node) → AwaitsOne n → 1 ≤ least_at_rest (Some n) (Some parcel)
    of (WhenAll children) awaits = absurd awaits
    of (Bulk child job) awaits = absurd awaits
    of n awaits = omega arith

-- Where the homes of the children are empty, what was taken is a parcel of the child, which the node may rest with.
module _ (board : Board Blueprint) (t : Stepping) (inside : Item) (old new : HandSeat) (is : IsOpenWith board t inside (λ _. None) old)
    (answer : Option Delivery) (takes : TakesKept board t answer old new) where
  pub unkept-taken : IsTaken board t new
  unkept-taken = open-taken board t (without_parcel inside) new (takes.left inside (λ _. None) is)

  module _ (one : (parcel : Delivery) → 1 ≤ least_of (Rest t.start (Some parcel))) (of : IsItemOf inside t.name.node)
      (saw : MaySee board t.name (saw_in inside) old.me) where
    kept-so : (item : Item) (parcel : Delivery) → GoesOn item → start_in item ≡ t.start → parcel_in item ≡ Some parcel →
        item ≡ Rest t.start (Some parcel)
    kept-so (Start start) parcel goes_on start_is keeps = cc
    kept-so (Rest start kept) parcel goes_on start_is keeps = rw (start_is, keeps) refl
    kept-so (Done done) parcel goes_on start_is keeps = absurd (goes_on tt)

    kept-parcel : (parcel : Delivery) → answer ≡ Some parcel → IsDelivery parcel → HasParcel board t new.me parcel
    kept-parcel parcel same lawful =
        let keeps = kept-so inside parcel is.midway.goes_on is.midway.inside_is (takes.lay inside (λ _. None) is ∙ same) in
        record {
          ready = ready-at board t.name t.start new.me 0 1 is.midway.held (takes.keeps.same_held ∙ is.midway.tends.holds)
              (let least : least_of (Rest t.start (Some parcel)) ≤ is.midway.held.named =
              subst (λ (i : Item). least_of i ≤ is.midway.held.named) keeps is.midway.named in
              let some = one parcel in omega (arith, least, some))
              unkept-taken.ready;
          from = kept-from board t new.me parcel (subst (λ (i : Item). IsItemOf i t.name.node) keeps of) lawful
              (λ none. sym (ap saw_in keeps) ∙ saw (sym takes.keeps.heard ∙ none));
        }

    pub kept-has : IfSome answer (HasParcel board t new.me)
    kept-has = each answer refl takes.lawful
      where
        each : (o : Option Delivery) → answer ≡ o → IfSome o IsDelivery → IfSome o (HasParcel board t new.me)
        each None is lawful = tt
        each (Some parcel) is lawful = kept-parcel parcel is lawful
