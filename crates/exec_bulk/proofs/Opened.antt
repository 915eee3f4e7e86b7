-- How the step of a bulk that has begun goes on from what lies in the homes.
use Rattle.std.proofs.Common.{◌≡◌, ◌≢◌, inl, inr, ℕ, ◌+◌, ◌<◌, ◌≤◌, min, true, false, ◌==◌, List, ℤ, [], length, Option, Some, None, refl, sym, ap, ◌∙◌, subst, arith}
use Rattle.std.specs.Prelude.{slice_get}
use Rattle.std.specs.Borrow.{MutBor}
use Rattle.std.specs.List.{list_any, range_with_len}
use Rattle.std.specs.Option.{option_copied_mut, option_map, option_map_or}
use Rattle.std.proofs.lemmas.Bool.{cases_lt}
use Rattle.std.proofs.lemmas.Option.{same_Some}
use Rattle.common_lemmas.proofs.Bool.{either}
use Rattle.exec_value.specs.declared.outcome.Completion.{Completion}
use Rattle.node_tree.specs.Tree.{is_child}
use Rattle.plan_rules.specs.declared.node.Node.{Node}
use Rattle.plan_rules.specs.declared.node.Node.TheVariants.{Bulk}
use Rattle.plan_shape.specs.Blueprint.{Blueprint}
use Rattle.plan_shape.specs.declared.limits.TheConstants.{BULK_PARTS}
use Rattle.plan_kinds.specs.Runnable.{IsRunnable}
use Rattle.table_steps.specs.Slots.{home_at}
use Rattle.table_steps.specs.Swaps.{IsSwapped}
use Rattle.table_steps.specs.Views.{Board, Stays}
use Rattle.op_slot.proofs.Staying.{stays-on}
use Rattle.home_items.specs.declared.entry.Entry.{Entry}
use Rattle.home_items.specs.declared.item.Item.{Item}
use Rattle.home_items.specs.declared.item.State.TheVariants.{Kept, Rest as Rests}
use Rattle.home_items.specs.Bounds.{least_of}
use Rattle.home_items.specs.Contents.{Start, Rest, Done}
use Rattle.home_items.specs.Entries.{node_of, no_row, row_lot}
use Rattle.home_items.specs.Fits.{IsItemOf}
use Rattle.home_items.specs.Items.{completion_in, lot_for, lot_of, parcel_in, saw_in, start_in, state_of}
use Rattle.home_items.specs.Parcels.{Delivery}
use Rattle.exec_recv.specs.Seats.{HandSeat}
use Rattle.exec_recv.specs.Sites.{node_at, plan_at}
use Rattle.exec_recv.specs.Steppable.{CanStep}
use Rattle.start_laws.specs.Nodes.{IsStartOf}
use Rattle.step_parts.specs.Midway.{IsMidway}
use Rattle.step_parts.specs.Several.{emptied, Empties}
use Rattle.step_parts.specs.Stepping.{Stepping}
use Rattle.step_parts.specs.Takes.{IsOpen, IsOpenWith}
use Rattle.step_parts.proofs.Changing.{turned-keeps}
use Rattle.step_parts.proofs.Ended.{open-none, open-taken}
use Rattle.step_parts.proofs.Frames.{others-on}
use Rattle.step_parts.proofs.Several.{emptied-else, emptied-in}
use Rattle.step_parts.proofs.Swapping.{swap-changes}
use Rattle.step_parts.proofs.Telling.{kept-from}
use Rattle.exec_bulk.specs.declared.joining.Made.{Made}
use Rattle.exec_bulk.specs.declared.joining.Made.TheVariants.{Want}
use Rattle.exec_bulk.specs.declared.opening.KeptRow.{KeptRow}
use Rattle.exec_bulk.specs.Ends.{MayEndParts}
use Rattle.exec_bulk.specs.Kinds.{IsBulkNode}
use Rattle.exec_bulk.specs.Made.{IsFrontMade}
use Rattle.exec_bulk.specs.Opens.{HasDrawn, HasTakenUp, HaveDelivered, LooksAtRow, MayLook, MayTakeBack, ShowsRow, GathersParts}
use Rattle.exec_bulk.specs.Rows.{first_part, numbers_in, parts_for}
use Rattle.exec_bulk.specs.Steps.{HaveAllDelivered}
use Rattle.exec_bulk.proofs.Drawn.{child-empty, part-empty, part-over, part-share}
use Rattle.exec_bulk.proofs.Making.{lot-none, lot-row}
use Rattle.exec_bulk.proofs.Places.{bulk-kids}
use Rattle.exec_bulk.proofs.Ranges.{range-named}

-- what lies in the home of a node that keeps a parcel
pub kept-of : (item : Item) → Kept ≡ state_of item → (kept : Delivery) × (item ≡ Rest (start_in item) (Some kept))
kept-of (Start start) is = cc
kept-of (Rest start None) is = cc
kept-of (Rest start (Some parcel)) is = (parcel, refl)
kept-of (Done parcel) is = cc

rests-bare : (item : Item) → Rests ≡ state_of item → lot_of item ≡ no_row
rests-bare (Start start) is = cc
rests-bare (Rest start None) is = refl
rests-bare (Rest start (Some parcel)) is = cc
rests-bare (Done parcel) is = cc

-- a home that isn't among those that were emptied, and is empty, stays so
emptied-none : (ns : List ℕ) (kid : ℕ → Option Item) (n : ℕ) → kid n ≡ None → emptied ns kid n ≡ None
emptied-none ns kid n none =
    either (list_any (λ m. m == n) ns) (λ t. emptied-in ns kid n t) (λ f. emptied-else ns kid n f ∙ none)

-- the start of a node that is open is one of its node
pub opened-of : (board : Board Blueprint) (t : Stepping) (inside : Item) (kid : ℕ → Option Item) (hand : HandSeat) → IsOpenWith board t inside kid hand →
    (node : Node) → node_at board t.name ≡ Some node → IsStartOf t.start node
opened-of board t inside kid hand lies node at =
    let is = lies.midway in
    record {
      start_is = lies.start_is;
      runnable = subst IsRunnable (sym is.key) lies.site.kinds;
      node_is = ap (λ (b : Blueprint). slice_get b.nodes (node_of t.start)) is.key ∙ ap (slice_get (plan_at board).nodes) is.node ∙ at;
    }

-- One thing lies in the home of a node that is open.
pub open-one : (board : Board Blueprint) (t : Stepping) (hand : HandSeat) (inside other : Item) (kid kid_other : ℕ → Option Item) →
    IsOpenWith board t inside kid hand → IsOpenWith board t other kid_other hand → inside ≡ other
open-one board t hand inside other kid kid_other lies is =
    same_Some inside other (same_Some (Some inside) (Some other) (sym lies.midway.tends.own ∙ is.midway.tends.own))

-- What was lent of its home lies there,
pub lent-one : (board : Board Blueprint) (t : Stepping) (hand : HandSeat) (inside : Item) (kid : ℕ → Option Item) →
    IsOpenWith board t inside kid hand → (lent : Option (MutBor Item)) →
    home_at board.frame.layout hand.me t.name ≡ Some (option_copied_mut lent) → (item : MutBor Item) → lent ≡ Some item → item.now ≡ inside
lent-one board t hand inside kid lies lent value item there =
    same_Some item.now inside
    (sym (ap (λ o. option_copied_mut o) there)
    ∙ same_Some (option_copied_mut lent) (Some inside) (sym value ∙ lies.midway.tends.own))

-- and shows what the node keeps of its child.
module _ (item inside : Item) (same : item ≡ inside) (kept : Delivery) (keeps : parcel_in inside ≡ Some kept) where
  pub shown-done : (done : Completion) → completion_in item ≡ Some done → done ≡ kept.completion
  shown-done done shows =
      same_Some done kept.completion
      (sym shows ∙ ap completion_in same ∙ ap (option_map (λ (parcel : Delivery). parcel.completion)) keeps)

  pub shown-saw : saw_in item ≡ kept.saw
  shown-saw = ap saw_in same ∙ ap (λ o. option_map_or (λ (parcel : Delivery). parcel.saw) o false) keeps

-- It is open still where it was only looked at what lies there.
pub looked-on : (board : Board Blueprint) (t : Stepping) (item : Item) (old new : HandSeat) → Stays board old new →
    IsSwapped board.frame t.name (Some item) (Some item) old.me new.me → Empties board t [] old new
looked-on board t item old new stays put =
    let changes = swap-changes board t.name t.name (Some item) (Some item) old new stays put in
    record {
      keeps = changes;
      left = λ inside kid is. record {
        site = is.site;
        stays = stays-on board t.from old new is.stays stays;
        start_is = is.start_is;
        beside = others-on board t.name t.from.me old.me new.me is.beside changes.beside;
        midway = (turned-keeps board t.name item old.me new.me put).midway t.start inside (least_of inside) kid is.midway;
      };
    }

-- A bulk was taken up that keeps a parcel of its child.
module _ (board : Board Blueprint) (t : Stepping) (child : ℕ) (up : HandSeat) (has : HasTakenUp board t child Kept up) where
  abbrev can : CanStep board t.name has.before.me
  can = has.can

  abbrev lies : IsOpenWith board t can.item can.kid up
  lies = has.takes.opened can

  abbrev bulk : Node
  bulk = Bulk child has.job

  abbrev pub kept : Delivery
  kept = (kept-of can.item (has.takes.state_is can)).0

  item-is : can.item ≡ Rest t.start (Some kept)
  item-is = (kept-of can.item (has.takes.state_is can)).1 ∙ ap (λ (s : List Entry). Rest s (Some kept)) lies.midway.inside_is

  pub kept-is : (inside : Item) (kid : ℕ → Option Item) → IsOpenWith board t inside kid up → parcel_in inside ≡ Some kept
  kept-is inside kid is = ap parcel_in (open-one board t up inside can.item kid can.kid is lies ∙ item-is)

  pub may-look : MayLook board t up
  may-look = record {
    inside = can.item;
    kid = can.kid;
    opened = lies;
    keeps = λ none. let wrong = sym (ap parcel_in item-is) ∙ none in cc;
  }

  pub is-bulk : IsBulkNode (node_at board t.name)
  is-bulk = subst IsBulkNode (sym has.node_is) tt

  its : IsStartOf t.start bulk
  its = opened-of board t can.item can.kid up lies bulk has.node_is

  lot-is : lot_of can.item ≡ lot_for (Some bulk) kept.completion
  lot-is = ap lot_of item-is ∙ ap (λ (o : Option Node). lot_for o kept.completion) its.node_is

  module _ (row : KeptRow) (seen : HandSeat) (looks : LooksAtRow board t row up seen) where
    abbrev numbers : List ℤ
    numbers = numbers_in kept.completion

    pub shows : ShowsRow row kept
    shows = looks.shows can.item can.kid lies kept (ap parcel_in item-is)

    seen-lies : IsOpenWith board t can.item can.kid seen
    seen-lies = looks.still.left can.item can.kid lies

    pub seen-open : IsOpen board t seen
    seen-open = record { inside = can.item; kid = can.kid; is = seen-lies }

    -- where it keeps no numbers, it goes on by its child
    pub opened-back : numbers ≡ [] → MayTakeBack board t child seen
    opened-back none =
        record {
          inside = can.item;
          kid = can.kid;
          opened = seen-lies;
          job = has.job;
          node_is = has.node_is;
          none = λ part within. elim (lot-none child has.job kept.completion none) [
            | inl bare ↦ part-empty board t.name child has.job lies.site has.node_is has.before.me can part within (lot-is ∙ bare)
            | inr empty ↦
                part-over board t.name child has.job lies.site has.node_is has.before.me can part within [] (lot-is ∙ empty) (omega arith)
          ];
        }

    -- where it keeps some, all homes are empty once those of the parts were emptied that were begun
    module _ (some : 1 ≤ length numbers) (count : ℕ) (count_is : count ≡ min BULK_PARTS row.room) (made : Made) (new : HandSeat)
        (gathers : GathersParts board t count made seen new) where
      abbrev begun : List ℕ
      begun = range_with_len (first_part t.name.node) count

      abbrev gone : ℕ → Option Item
      gone = emptied begun can.kid

      row-is : lot_of can.item ≡ row_lot numbers
      row-is = lot-is ∙ lot-row child has.job kept.completion some

      all : count ≡ parts_for numbers
      all = count_is ∙ ap (min BULK_PARTS) shows.room_is

      part-gone : (part : ℕ) → part < BULK_PARTS → gone (first_part t.name.node + part) ≡ None
      part-gone part within =
          elim (cases_lt part count) [
            | inl below ↦ emptied-in begun can.kid (first_part t.name.node + part) (range-named (first_part t.name.node) count part below)
            | inr past ↦
                let over : length numbers ≤ part = omega (arith, past, within, all) in
                emptied-none begun can.kid (first_part t.name.node + part)
                (part-over board t.name child has.job lies.site has.node_is has.before.me can part within numbers row-is over)
          ]

      all-gone : (n : ℕ) → is_child board.frame.tree t.name.node n ≡ true → gone n ≡ None
      all-gone n is =
          elim (bulk-kids board t.name child has.job lies.site has.node_is n is) [
            | inl first ↦
                emptied-none begun can.kid n
                (ap can.kid first ∙ child-empty board t.name child has.job lies.site has.node_is has.before.me can numbers row-is)
            | inr part ↦ ap gone part.2 ∙ part-gone part.0 part.1
          ]

      drawn : HasDrawn board t has.job numbers seen
      drawn = record {
        inside = can.item;
        kid = can.kid;
        opened = seen-lies;
        makes = λ part parcel within full lawful.
            part-share board t.name child has.job lies.site has.node_is has.before.me can part within numbers row-is
            (subst (λ (s : List Entry). IsStartOf s bulk) (sym lies.midway.inside_is ∙ can.shows) its) parcel full lawful;
      }

      pub all-made : IsFrontMade made has.job numbers (parts_for numbers)
      all-made = subst (λ k. IsFrontMade made has.job numbers k) all (gathers.made_is has.job numbers drawn)

      pub opened-ends : MayEndParts board t row.saw made new
      opened-ends =
          let none = open-none board t can.item gone new (gathers.empties.left can.item can.kid seen-lies) all-gone in
          let heard = gathers.empties.keeps.heard ∙ looks.still.keeps.heard in
          record {
            taken = open-taken board t can.item new none;
            child = child;
            job = has.job;
            node_is = has.node_is;
            kept = kept;
            saw_is = shows.saw_is;
            ready = record {
              inside = can.item;
              is = subst (λ (i : Item). IsMidway board t.name t.start can.item (least_of i) (λ _. None) new.me) item-is none.midway;
            };
            from = kept-from board t new.me kept (subst (λ (i : Item). IsItemOf i t.name.node) item-is (has.takes.of can)) shows.lawful
                (λ silent. sym (ap saw_in item-is) ∙ has.takes.saw can (sym heard ∙ silent));
            some = some;
            made_is = all-made;
          }

      -- where all parts have delivered, none wants memory
      pub all-able : HaveAllDelivered board t child numbers up → made ≢ Want
      all-able have is =
          gathers.wants have.inside have.kid (looks.still.left have.inside have.kid have.opened) is
          (subst (λ k. HaveDelivered (first_part t.name.node) k have.kid) (sym all) have.have)

-- A bulk that was taken up at rest: nothing lies in the homes of its parts.
pub rests-back : (board : Board Blueprint) (t : Stepping) (child : ℕ) (up : HandSeat) → HasTakenUp board t child Rests up →
    MayTakeBack board t child up
rests-back board t child up has =
    let can = has.can in
    let lies = has.takes.opened can in
    record {
      inside = can.item;
      kid = can.kid;
      opened = lies;
      job = has.job;
      node_is = has.node_is;
      none = λ part within.
          part-empty board t.name child has.job lies.site has.node_is has.before.me can part within (rests-bare can.item (has.takes.state_is can));
    }
