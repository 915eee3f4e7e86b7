-- What lies in the node's own home is changed in the middle of its step, or only looked at.
use Rattle.std.proofs.Common.{◌≡◌, ℕ, List, [], sym, ap, ◌∙◌, subst}
use Rattle.std.specs.Prelude.{Option, Some, None}
use Rattle.std.specs.Borrow.{MutBor}
use Rattle.std.specs.Option.{option_copied_mut}
use Rattle.std.proofs.lemmas.Option.{same_Some}
use Rattle.life_rules.specs.declared.event.Name.{Name}
use Rattle.plan_shape.specs.Blueprint.{Blueprint}
use Rattle.table_steps.specs.Seats.{Seated}
use Rattle.op_table.specs.Lends.{EndsWith}
use Rattle.table_steps.specs.Slots.{home_at}
use Rattle.table_steps.specs.Swaps.{HasHome, IsSwapped}
use Rattle.table_steps.specs.Views.{Board}
use Rattle.op_slot.specs.Tends.{IsCalm, Tends}
use Rattle.op_slot.proofs.Staying.{stays-on}
use Rattle.op_slot.proofs.Tending.{swapped-calm, swapped-old, swapped-own}
use Rattle.home_items.specs.declared.entry.Entry.{Entry}
use Rattle.home_items.specs.declared.item.Item.{Item}
use Rattle.home_items.specs.Contents.{Rest}
use Rattle.home_items.specs.Items.{start_in, GoesOn}
use Rattle.exec_recv.specs.Beginnings.{AllCanStart}
use Rattle.exec_recv.specs.Family.{AreOwedElsewhere}
use Rattle.exec_recv.specs.Seats.{HandSeat}
use Rattle.exec_recv.proofs.Fitting.{hears-still}
use Rattle.exec_recv.proofs.Starts.{KeepsHomes, all-still}
use Rattle.step_parts.specs.Changes.{ChangesTo}
use Rattle.step_parts.specs.Midway.{IsMidway, Ready, KeepsOthers, KeepsReady}
use Rattle.step_parts.specs.Stepping.{Stepping}
use Rattle.step_parts.specs.Takes.{IsTaken, Keeps}
use Rattle.op_slot.proofs.Staying.{stays-on}
use Rattle.step_parts.proofs.Frames.{elsewhere-still, others-on}
use Rattle.step_parts.proofs.Swapping.{own-family, swap-beside, swap-heard, swap-homes}

module _ (board : Board Blueprint) (x : Name) (item was : Item) (m m1 : Seated Item Entry)
    (put : IsSwapped board.frame x (Some item) (Some was) m m1) where
  abbrev beside_it : KeepsOthers board x m m1
  beside_it = swap-beside board x x (Some item) (Some was) m m1 put

  module _ (start : List Entry) (inside : Item) (least : ℕ) (kid : ℕ → Option Item) (is : IsMidway board x start inside least kid m) where
    -- what lay there
    pub was-is : was ≡ inside
    was-is = same_Some was inside (swapped-old board.frame x (Some item) (Some was) m m1 put (Some inside) is.tends.own)

    -- the hand has the homes as before, but for the new item
    pub put-tends : Tends board.frame x is.held (Some item) kid m1
    put-tends = swapped-own board.frame x (Some item) (Some was) m m1 put is.held (Some inside) kid is.places is.tends

    pub put-calm : IsCalm m1
    put-calm = swapped-calm board.frame x (Some item) (Some was) m m1 put is.calm

    pub put-unrun : m1.0.runs ≡ []
    put-unrun = ap (λ (z : Seated Item Entry). z.0.runs) put.me_is ∙ is.unrun

    put-homes : KeepsHomes board m m1
    put-homes = swap-homes board x x (Some item) (Some was) m m1 put (own-family board x) is.elsewhere

    pub put-starts : AllCanStart board m1
    put-starts = all-still board m m1 beside_it.owed put-homes beside_it.aside.sees is.starts

    pub put-elsewhere : AreOwedElsewhere board x m1
    put-elsewhere = elsewhere-still board x m m1 beside_it.owed is.elsewhere

    -- the step goes on
    pub put-midway : GoesOn item → start_in item ≡ start → IsMidway board x start item least kid m1
    put-midway goes_on start_is =
        record {
          place = is.place;
          places = is.places;
          calm = put-calm;
          unrun = put-unrun;
          held = is.held;
          tends = put-tends;
          goes_on = goes_on;
          inside_is = start_is;
          shows = is.shows;
          node = is.node;
          kinds = is.kinds;
          calmly = is.calmly;
          key = is.key;
          hears = hears-still board.frame.tree m.0 m1.0 x is.held.told is.held.told_children (ap (λ a. a.number) beside_it.aside.same)
              (ap (λ a. a.requested) beside_it.aside.same) is.hears;
          named = is.named;
          kids = is.kids;
          awaited = is.awaited;
          starts = put-starts;
          elsewhere = put-elsewhere;
        }

  pub put-ready : (start : List Entry) (least : ℕ) → GoesOn item → start_in item ≡ start → Ready board x start least m →
      Ready board x start least m1
  put-ready start least goes_on start_is ready =
      record { inside = item; is = put-midway start ready.inside least (λ _. None) ready.is goes_on start_is }

-- where the same item lies there again, it was only looked at
module _ (board : Board Blueprint) (x : Name) (item : Item) (m m1 : Seated Item Entry)
    (put : IsSwapped board.frame x (Some item) (Some item) m m1) where
  pub turned-keeps : KeepsReady board x m m1
  turned-keeps = record {
    beside = swap-beside board x x (Some item) (Some item) m m1 put;
    midway = λ start inside least kid is.
        let same = was-is board x item item m m1 put start inside least kid is in
        subst (λ i. IsMidway board x start i least kid m1) same
        (put-midway board x item item m m1 put start inside least kid is (subst (λ i. GoesOn i) (sym same) is.goes_on)
        (ap start_in same ∙ is.inside_is));
    heard = λ h. swap-heard board x x (Some item) (Some item) m m1 put ∙ h;
  }

-- after a change the step goes on
pub changes-taken : (board : Board Blueprint) (t : Stepping) (item : Item) (old new : HandSeat) → IsTaken board t old → ChangesTo board t item old new →
    GoesOn item → start_in item ≡ t.start → IsTaken board t new
changes-taken board t item old new is to goes_on start_is =
    record {
      site = is.site;
      stays = stays-on board t.from old new is.stays to.stays;
      start_is = is.start_is;
      beside = others-on board t.name t.from.me old.me new.me is.beside
          (swap-beside board t.name t.name (Some item) (Some to.was) old.me new.me to.put);
      ready = put-ready board t.name item to.was old.me new.me to.put t.start 0 goes_on start_is is.ready;
    }

-- the own home can be lent
pub taken-home : (board : Board Blueprint) (t : Stepping) (hand : HandSeat) → IsTaken board t hand → HasHome board.frame.layout hand.me t.name
taken-home board t hand is = record { inside = Some is.ready.inside; home = is.ready.is.tends.own }

-- The item in the own home was lent.
module _ (board : Board Blueprint) (t : Stepping) (hand : HandSeat) (is : IsTaken board t hand) (lent : Option (MutBor Item))
    (value : home_at board.frame.layout hand.me t.name ≡ Some (option_copied_mut lent)) where
  lent-inside : option_copied_mut lent ≡ Some is.ready.inside
  lent-inside = same_Some (option_copied_mut lent) (Some is.ready.inside) (sym value ∙ is.ready.is.tends.own)

  -- it is there
  pub lent-there : lent ≡ None → ⊥
  lent-there none = none-full is.ready.inside (sym (ap (λ o. option_copied_mut o) none) ∙ lent-inside)
    where
      none-full : (item : Item) → None ≡ Some item → ⊥
      none-full item e = cc

  module _ (item : MutBor Item) (there : lent ≡ Some item) where
    lent-is : item.now ≡ is.ready.inside
    lent-is = same_Some item.now is.ready.inside (sym (ap (λ o. option_copied_mut o) there) ∙ lent-inside)

    -- and the node goes on with it
    pub lent-goes : GoesOn item.now
    lent-goes = subst (λ i. GoesOn i) (sym lent-is) is.ready.is.goes_on

    pub lent-start : start_in item.now ≡ t.start
    lent-start = ap (λ i. start_in i) lent-is ∙ is.ready.is.inside_is

    -- another was left in its place
    pub lent-changes : (left new : Item) → (start_in item.now ≡ t.start → left ≡ new) → (after : HandSeat) →
        EndsWith board t.name hand after (Some item.now) (Some left) → ChangesTo board t new hand after
    lent-changes left new same after ends =
        record {
          stays = ends.stays;
          was = item.now;
          put = subst (λ i. IsSwapped board.frame t.name (Some i) (Some item.now) hand.me after.me) (same lent-start) ends.swapped;
        }

    -- the node's start alone
    pub lent-rests : (left : Item) → left ≡ Rest (start_in item.now) None → (after : HandSeat) →
        EndsWith board t.name hand after (Some item.now) (Some left) → ChangesTo board t (Rest t.start None) hand after
    lent-rests left is_rest after ends =
        lent-changes left (Rest t.start None) (λ same. is_rest ∙ ap (λ s. Rest s None) same) after ends

    -- or it itself
    pub lent-keeps : (after : HandSeat) → EndsWith board t.name hand after (Some item.now) (Some item.now) → Keeps board t hand after
    lent-keeps after ends =
        record { stays = ends.stays; ready = turned-keeps board t.name item.now hand.me after.me ends.swapped }
