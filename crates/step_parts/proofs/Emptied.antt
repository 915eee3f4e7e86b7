-- How a step takes what lies in the home of a child of its node.
use Rattle.std.proofs.Common.{◌≡◌, ℕ, ◌<◌, true, false, ◌==◌, List, ◌∷◌, arith, refl, sym, ap, ◌∙◌, subst}
use Rattle.std.specs.Prelude.{Option, Some, None, is_some, IfSome, Contains}
use Rattle.std.specs.Option.{option_map, option_map_or}
use Rattle.std.proofs.lemmas.Bool.{cond-true, cond-false, eq-eqb}
use Rattle.std.proofs.lemmas.Option.{same_Some}
use Rattle.common_lemmas.proofs.Bool.{either}
use Rattle.life_rules.specs.declared.event.Name.{Name}
use Rattle.life_rules.specs.Views.{beside}
use Rattle.node_tree.specs.Tree.{is_child, is_unstoppable}
use Rattle.plan_rules.specs.declared.node.Node.{Node}
use Rattle.plan_rules.specs.declared.node.Node.TheVariants.{WhenAll}
use Rattle.plan_shape.specs.Blueprint.{Blueprint}
use Rattle.plan_shape.specs.PlanTree.{is_when_all}
use Rattle.table_rules.specs.declared.view.Held.{Held}
use Rattle.table_steps.specs.Views.{Board, IsPlaceIn, Stays}
use Rattle.table_steps.specs.Slots.{home_at}
use Rattle.table_steps.specs.Swaps.{HasHome, IsSwapped}
use Rattle.op_slot.specs.Tends.{put_at, Tends}
use Rattle.op_slot.proofs.Leaving.{tends-kid}
use Rattle.op_slot.proofs.Places.{kid-within}
use Rattle.op_slot.proofs.Staying.{stays-on}
use Rattle.op_slot.proofs.Tending.{swapped-old, swapped-kid}
use Rattle.home_items.specs.declared.entry.Entry.{Entry}
use Rattle.home_items.specs.declared.item.Item.{Item}
use Rattle.home_items.specs.Bounds.{least_of}
use Rattle.home_items.specs.Contents.{Start, Rest, Done}
use Rattle.home_items.specs.Entries.{node_of}
use Rattle.home_items.specs.Items.{HasCompleted, parcel_in}
use Rattle.home_items.specs.Parcels.{Delivery, IsDelivery}
use Rattle.home_items.proofs.Reading.{child-fits}
use Rattle.start_laws.specs.Nodes.{AwaitsOne, plain_children}
use Rattle.start_laws.proofs.Knowing.{from-plain}
use Rattle.exec_recv.specs.Seats.{HandSeat}
use Rattle.exec_recv.specs.Sites.{node_at, plan_at}
use Rattle.exec_recv.specs.Steppable.{IsDoneBelow}
use Rattle.step_parts.specs.Heard.{has_heard}
use Rattle.step_parts.specs.Midway.{ChangesHomes}
use Rattle.step_parts.specs.Stepping.{Stepping}
use Rattle.step_parts.specs.Takes.{IsOnlyChild, TakesOne, IsOpenWith, IsOpen, IsTaken, HasParcel, IsFoundBelow, TakesChild, TakesBack}
use Rattle.step_parts.proofs.Ended.{open-none, open-taken}
use Rattle.step_parts.proofs.Frames.{others-on, entry-here, midway-on, ready-at}
use Rattle.step_parts.proofs.Places.{source-none, start-of}
use Rattle.step_parts.proofs.Swapping.{kid-family, swap-changes, swap-homes}
use Rattle.step_parts.proofs.Telling.{told-none, found-done}

-- the child's home can be turned to
module _ (board : Board Blueprint) (t : Stepping) (n : ℕ) (child : is_child board.frame.tree t.name.node n ≡ true) (hand : HandSeat) (is : IsOpen board t hand) where
  pub kid-home : HasHome board.frame.layout hand.me (beside t.name n)
  kid-home = tends-kid board.frame t.name hand.me is.is.midway.held (Some is.inside) is.kid is.is.midway.tends n child

  pub kid-place : IsPlaceIn board (beside t.name n)
  kid-place = record { block = is.is.midway.place.block; node = kid-within board.frame t.name is.is.midway.places n child }

  -- what lies there is a completion
  pub kid-done : (done : Item) → home_at board.frame.layout hand.me (beside t.name n) ≡ Some (Some done) → HasCompleted done
  kid-done done lies =
      (is.is.midway.kids n done child (same_Some (is.kid n) (Some done) (sym (is.is.midway.tends.kids n child) ∙ lies))).ends

-- a completion is the parcel in it
pub done-parcel : (done : Item) → HasCompleted done → option_map Done (parcel_in done) ≡ Some done
done-parcel (Done parcel) ends = refl
done-parcel (Start start) ends = absurd ends
done-parcel (Rest start kept) ends = absurd ends

-- and so there is one
pub done-some : (done : Item) → HasCompleted done → true ≡ is_some (parcel_in done)
done-some (Done parcel) ends = refl
done-some (Start start) ends = absurd ends
done-some (Rest start kept) ends = absurd ends

put-less : (n k : ℕ) (kid : ℕ → Option Item) (done : Item) → put_at n None kid k ≡ Some done → kid k ≡ Some done
put-less n k kid done full =
    either (n == k)
    (λ t. absurd (none-some (sym (cond-true (n == k) None (kid k) t) ∙ full)))
    (λ f. sym (cond-false (n == k) None (kid k) f) ∙ full)
  where
    none-some : None ≡ Some done → ⊥
    none-some e = cc

-- What lay in the home of the child n was taken.
module _ (board : Board Blueprint) (t : Stepping) (n : ℕ) (child : is_child board.frame.tree t.name.node n ≡ true) (answer : Option Delivery)
    (old new : HandSeat) (stays : Stays board old new)
    (taken : IsSwapped board.frame (beside t.name n) None (option_map Done answer) old.me new.me) where
  abbrev x : Name
  x = t.name

  abbrev lay_there : Option Item
  lay_there = option_map Done answer

  changes : ChangesHomes board x old new
  changes = swap-changes board x (beside x n) None lay_there old new stays taken

  module _ (inside : Item) (kid : ℕ → Option Item) (was : IsOpenWith board t inside kid old) where
    below-lay : kid n ≡ lay_there
    below-lay = sym (swapped-old board.frame (beside x n) None lay_there old.me new.me taken (kid n) (was.midway.tends.kids n child))

    below-tends : Tends board.frame x was.midway.held (Some inside) (put_at n None kid) new.me
    below-tends =
        swapped-kid board.frame x n None lay_there old.me new.me was.midway.held (Some inside) kid was.midway.places child taken was.midway.tends

    below-left : IsOpenWith board t inside (put_at n None kid) new
    below-left =
        record {
          site = was.site;
          stays = stays-on board t.from old new was.stays stays;
          start_is = was.start_is;
          beside = others-on board x t.from.me old.me new.me was.beside changes.beside;
          midway = midway-on board x old.me new.me changes.beside
              (swap-homes board x (beside x n) None lay_there old.me new.me taken (kid-family board x n was.midway.places child)
              was.midway.elsewhere)
              t.start (least_of inside) inside inside kid (put_at n None kid) was.midway was.midway.goes_on was.midway.inside_is
              was.midway.held (entry-here was.midway.held) below-tends (λ k done at full. put-less n k kid done full);
        }

    module _ (parcel : Delivery) (is : answer ≡ Some parcel) (lawful : IsDelivery parcel) where
      here : IsDoneBelow was.midway.held n (Done parcel)
      here = was.midway.kids n (Done parcel) child (below-lay ∙ ap (option_map Done) is)

      node-is : node_of was.midway.held.start ≡ x.node
      node-is = ap node_of (sym was.midway.shows) ∙ was.midway.node

      below-found : IsFoundBelow board t n new.me parcel
      below-found =
          let hears = was.midway.hears in
          record {
            lawful = lawful;
            entry = here.entry;
            below = here.below ∙ ap (λ (l : List Entry). here.entry ∷ l) (sym was.midway.shows);
            of = child-fits (Done parcel) n was.midway.held.told_children here.fit here.entry was.midway.held.start here.below
                (λ e. let less : n < x.node = was.midway.places.kids n child in let same = node-is in absurd (omega (arith, less, same, e)));
            draws = ap (λ (o : Option (Held Entry)). option_map_or (λ (e : Held Entry). e.lot) o None) below-tends.holds ∙ here.draws;
            calmly = λ none silent.
                either (is_unstoppable board.frame.tree x.node)
                (λ un. here.fit.1 (hears.shelters none un))
                (λ st. here.fit.1 (hears.passes none st ∙ told-none board x new.me was.midway.held below-tends.holds silent));
            shelters = λ none un. here.fit.1 (hears.shelters none un);
          }

  pub takes-child : IfSome answer IsDelivery → TakesChild board t n answer old new
  takes-child lawful =
      record {
        keeps = changes;
        lay = below-lay;
        left = below-left;
        found = λ opened. of opened answer refl lawful;
      }
    where
      of : (opened : IsOpen board t old) (o : Option Delivery) → answer ≡ o → IfSome o IsDelivery → IfSome answer (IsFoundBelow board t n new.me)
      of opened None is none = subst (λ (o : Option Delivery). IfSome o (IsFoundBelow board t n new.me)) (sym is) tt
      of opened (Some parcel) is lawful =
          subst (λ (o : Option Delivery). IfSome o (IsFoundBelow board t n new.me)) (sym is)
          (below-found opened.inside opened.kid opened.is parcel is lawful)

pub awaits-not-all : (node : Node) → AwaitsOne node → is_when_all node ≡ false
awaits-not-all (WhenAll children) awaits = absurd awaits
awaits-not-all node awaits = refl

-- the node that awaits one child at a time, and what runs with its arguments
pub awaiting-node : (o : Option Node) (child : Option ℕ) → TakesOne o child →
    (node : Node) × (o ≡ Some node) × AwaitsOne node × IfSome child (Contains (plain_children node))
awaiting-node None child one = absurd one
awaiting-node (Some node) child one = (node, refl, one.0, one.1)

-- Where it is the only child, which runs with the node's arguments, all homes of children are empty.
module _ (board : Board Blueprint) (t : Stepping) (n : ℕ) (only : IsOnlyChild board t.name (Some n)) (one : TakesOne (node_at board t.name) (Some n))
    (answer : Option Delivery) (old new : HandSeat) (opened : IsOpen board t old) (takes : TakesChild board t n answer old new) where
  emptied : (kid : ℕ → Option Item) (k : ℕ) → is_child board.frame.tree t.name.node k ≡ true → put_at n None kid k ≡ None
  emptied kid k child = cond-true (n == k) None (kid k) (eq-eqb n k (same_Some n k (only.only k child)))

  back-own : (inside : Item) (kid : ℕ → Option Item) → IsOpenWith board t inside kid old → IsOpenWith board t inside (λ _. None) new
  back-own inside kid is = open-none board t inside (put_at n None kid) new (takes.left inside kid is) (emptied kid)

  back-taken : IsTaken board t new
  back-taken = open-taken board t opened.inside new (back-own opened.inside opened.kid opened.is)

  back-parcel : (parcel : Delivery) → answer ≡ Some parcel → IsFoundBelow board t n new.me parcel → HasParcel board t new.me parcel
  back-parcel parcel is found =
      let node = awaiting-node (node_at board t.name) (Some n) one in
      let was = opened.is.midway in
      let over = opened.is.site.over in
      let plain = source-none board (plan_at board) t.name node.0 over node.1 (awaits-not-all node.0 node.2) in
      record {
        ready = ready-at board t.name t.start new.me 0 1 was.held (takes.keeps.same_held ∙ was.tends.holds)
            (was.awaited n (Done parcel) (only.is n refl) (takes.lay opened.inside opened.kid opened.is ∙ ap (option_map Done) is)) back-taken.ready;
        from = from-plain t.start parcel n (has_heard board t.name new.me) (found-done board t n new.me parcel found opened.is.start_is plain)
            node.0 (start-of board (plan_at board) t.name node.0 over node.1 t.start opened.inside (least_of opened.inside) opened.kid old.me opened.is.site.kinds
            was opened.is.start_is) node.3;
      }

  pub takes-back : TakesBack board t n answer old new
  takes-back =
      record {
        keeps = takes.keeps;
        taken = back-taken;
        parcel = of answer refl (takes.found opened);
        lay = takes.lay;
        own = back-own;
      }
    where
      of : (o : Option Delivery) → answer ≡ o → IfSome o (IsFoundBelow board t n new.me) → IfSome o (HasParcel board t new.me)
      of None is none = tt
      of (Some parcel) is found = back-parcel parcel is found
