-- How a bulk begins its parts.
use Rattle.std.proofs.Common.{◌≡◌, ℕ, suc, ◌+◌, ◌<◌, ◌≤◌, Bool, true, false, ℤ, List, [], ◌∷◌, length, take, refl, sym, ap, ◌∙◌, subst, arith}
use Rattle.std.specs.Prelude.{Option, Some, slice_get, slice_index}
use Rattle.std.specs.List.{range_with_len}
use Rattle.std.proofs.lemmas.Bool.{both_ways}
use Rattle.std.proofs.lemmas.List.FromFn.{length-range_with_len}
use Rattle.common_lemmas.proofs.Bool.{either}
use Rattle.exec_value.specs.declared.data.Datum.{Datum}
use Rattle.exec_value.specs.declared.data.Datum.TheVariants.{Row}
use Rattle.exec_value.specs.declared.outcome.Completion.TheVariants.{Value}
use Rattle.life_rules.specs.declared.event.Name.{Name}
use Rattle.life_rules.specs.Views.{beside}
use Rattle.node_tree.specs.Tree.{is_child}
use Rattle.plan_rules.specs.declared.node.Node.{Node}
use Rattle.plan_rules.specs.declared.node.Node.TheVariants.{Bulk, Part}
use Rattle.plan_shape.specs.Blueprint.{Blueprint}
use Rattle.plan_shape.specs.declared.limits.TheConstants.{BULK_PARTS}
use Rattle.plan_shape.proofs.ListLemmas.{different_range}
use Rattle.table_steps.specs.Seats.{Seated}
use Rattle.table_steps.specs.Slots.{has_seen}
use Rattle.table_steps.specs.Views.{Board}
use Rattle.op_slot.specs.Tends.{HasPlaces}
use Rattle.home_items.specs.declared.entry.Entry.{Entry}
use Rattle.home_items.specs.declared.item.Item.{Item}
use Rattle.home_items.specs.Contents.{Rest}
use Rattle.home_items.specs.Entries.{plan_of, node_of, asked_of, drawn_by, drawn_of, start_below, start_with, row_lot}
use Rattle.home_items.specs.Items.{lot_for, lot_of}
use Rattle.home_items.specs.Parcels.{Delivery}
use Rattle.home_items.specs.Shares.{part_args}
use Rattle.home_items.specs.Starts.{IsStart}
use Rattle.home_items.proofs.Lots.{part-draws}
use Rattle.home_items.proofs.Starting.{part-start, starts-below}
use Rattle.exec_recv.specs.Seats.{HandSeat}
use Rattle.exec_recv.specs.Sites.{plan_at}
use Rattle.exec_recv.proofs.Places.{over-places}
use Rattle.start_laws.specs.Laws.{MayBegin as ChildMayBegin}
use Rattle.start_laws.specs.Nodes.{IsStartOf}
use Rattle.start_laws.proofs.Rows.{parts-begin}
use Rattle.step_parts.specs.Awaits.{MayAwaitMany, AwaitsMany}
use Rattle.step_parts.specs.Kids.{AreKids, KnowsAllIdle}
use Rattle.step_parts.specs.Puts.{MayPutStart}
use Rattle.step_parts.specs.Starting.{OwesBare, owed_below}
use Rattle.step_parts.specs.Stepping.{Stepping}
use Rattle.step_parts.specs.Takes.{Keeps}
use Rattle.step_parts.proofs.AllStarted.{IsPutting}
use Rattle.step_parts.proofs.Ended.{parcel-on, see-on, taken-on}
use Rattle.step_parts.proofs.Places.{seen-below}
use Rattle.step_parts.proofs.Took.{taken-of}
use Rattle.exec_bulk.specs.Begins.{Looks, MayGoOn, MayBegin, MayStart}
use Rattle.exec_bulk.specs.Rows.{numbers_in, parts_for, first_part}
use Rattle.exec_bulk.proofs.Ended.{least-kept}
use Rattle.exec_bulk.proofs.Making.{lot-row, row-is}
use Rattle.exec_bulk.proofs.Places.{part-at, bulk-behind, bulk-large, bulk-parts, bulk-plain, bulk-open}
use Rattle.exec_bulk.proofs.Ranges.{range-at, take-range}

-- The child has completed with a row with numbers.
module _ (board : Board Blueprint) (t : Stepping) (parcel : Delivery) (hand : HandSeat) (may : MayBegin board t parcel hand) where
  abbrev on : MayGoOn board t parcel hand
  on = may.goes_on

  abbrev numbers : List ℤ
  numbers = numbers_in parcel.completion

  abbrev count : ℕ
  count = parts_for numbers

  abbrev first : ℕ
  first = first_part t.name.node

  abbrev pub parts : List ℕ
  parts = range_with_len first count

  row : parcel.completion ≡ Value (Row numbers ∷ [])
  row = row-is parcel.completion may.some

  of : IsStartOf t.start (Bulk on.child on.job)
  of = taken-of board t hand on.taken (Bulk on.child on.job) on.node_is

  few : count ≤ BULK_PARTS
  few = omega arith

  one : 1 ≤ count
  one = let some = may.some in omega (arith, some)

  pub parts-kids : AreKids board t.name parts
  parts-kids =
      record {
        each = λ i within.
            let inside : i < count = omega (arith, within, length-range_with_len first count) in
            subst (λ k. is_child board.frame.tree t.name.node k ≡ true) (sym (range-at first count i inside))
            (bulk-parts board t.name on.child on.job on.taken.site on.node_is i (omega (arith, inside)));
        different = different_range first count;
      }

  pub parts-places : HasPlaces board.frame t.name
  parts-places = over-places board (plan_at board) t.name on.taken.site.over on.taken.ready.is.place

  pub parts-behind : BULK_PARTS ≤ t.name.node
  parts-behind = bulk-behind (plan_at board) on.taken.site.over.is_plan t.name.node on.child on.job on.node_is

  -- so many of the eight nodes before the bulk's are the parts that are begun
  pub parts-are : (name : Name) (from many : ℕ) (nodes : List ℕ) → name ≡ t.name → from ≡ first_part name.node → many ≡ count →
      nodes ≡ range_with_len from BULK_PARTS → take many nodes ≡ parts
  parts-are name from many nodes name_is from_is many_is nodes_is =
      let from_first : from ≡ first = from_is ∙ ap (λ (y : Name). first_part y.node) name_is in
      ap (take many) (nodes_is ∙ ap (λ a. range_with_len a BULK_PARTS) from_first) ∙ ap (λ k. take k (range_with_len first BULK_PARTS)) many_is
      ∙ take-range count BULK_PARTS first few

  pub row-rests : lot_of (Rest t.start (Some parcel)) ≡ row_lot numbers
  row-rests = ap (λ (o : Option Node). lot_for o parcel.completion) of.node_is ∙ lot-row on.child on.job parcel.completion may.some

  -- The parts were read as not begun.
  module _ (read : HandSeat) (keeps : Keeps board t hand read) (children : List ℕ) (children_is : children ≡ parts)
      (idle : KnowsAllIdle t.name children (length children) read.me) where
    pub parts-may : MayAwaitMany board t (Some parcel) children read
    parts-may =
        let rests = least-kept on.child on.job t.start parcel of numbers row in
        let long : length children ≡ count = ap length children_is ∙ length-range_with_len first count in
        record {
          taken = taken-on board t hand read keeps on.taken;
          child = on.has.from.child;
          saw = see-on board t hand read keeps parcel.saw on.has.from.saw;
          small = λ small. absurd (bulk-large t.start on.child on.job of small);
          least = omega (arith, rests, long);
          some = omega (arith, one, long);
          kids = subst (λ ns. AreKids board t.name ns) (sym children_is) parts-kids;
          idle = idle;
        }

  -- The part of this number begins.
  module _ (left : ℕ) (within : left < count) where
    abbrev n : ℕ
    n = first + left

    abbrev below : List Entry
    below = start_with n (Row numbers ∷ []) (asked_of t.start) t.start

    here : slice_get (plan_of t.start).nodes n ≡ Some (Part (node_of t.start) left)
    here =
        let is = on.taken.ready.is in
        ap (λ (b : Blueprint). slice_get b.nodes n) is.key
        ∙ part-at (plan_at board) on.taken.site.over.is_plan t.name.node on.child on.job on.node_is left (omega (arith, within))
        ∙ ap (λ k. Some (Part k left)) (sym is.node)

    begins-at : (requested : Bool) → (requested ≡ false → parcel.saw ≡ false) → ChildMayBegin below n requested
    begins-at requested sees =
        subst (λ (s : List Entry). ChildMayBegin s n requested) (sym (part-start n numbers (asked_of t.start) t.start (node_of t.start) left here))
        (parts-begin t.start on.child on.job of parcel on.has.from.delivers on.has.from.child numbers row n left here requested sees)

    pub part-starts : IsStart below
    part-starts = starts-below n (Row numbers ∷ []) (asked_of t.start) t.start (begins-at true (λ e. cc)).begins on.taken.start_is

    -- it draws the row
    draws : (start : List Entry) → start ≡ t.start → drawn_of below ≡ row_lot numbers
    draws [] is = absurd (subst IsStart (sym is) on.taken.start_is)
    draws (p ∷ above) is =
        ap drawn_of (part-start n numbers (asked_of t.start) t.start (node_of t.start) left here)
        ∙ ap (λ (s : List Entry). drawn_of (start_below n (part_args numbers left) numbers (asked_of t.start) s)) (sym is)
        ∙ ap (λ o. drawn_by o numbers) (ap (λ (s : List Entry). slice_get (plan_of s).nodes n) is ∙ here)
        ∙ part-draws (node_of t.start) left numbers (omega (arith, within))

    module _ (m : HandSeat) (sees : parcel.saw ≡ true → has_seen board.frame.tree m.me.0 t.name ≡ true) where
      -- a request that the child saw was seen by the hand
      calm : has_seen board.frame.tree m.me.0 (beside t.name n) ≡ false → parcel.saw ≡ false
      calm silent =
          let site = on.taken.site in
          let same = seen-below board t.name n m.me site.over.is_tree (bulk-plain board t.name on.child on.job site on.node_is)
          (bulk-open board t.name on.child on.job site on.node_is)
          (bulk-parts board t.name on.child on.job site on.node_is left (omega (arith, within))) in
          either parcel.saw (λ h. absurd (both_ways (has_seen board.frame.tree m.me.0 (beside t.name n)) silent (same ∙ sees h))) (λ f. f)

      pub put-may : (lot : List ℤ) → lot ≡ row_lot numbers → (waiting : HandSeat) → IsPutting board t.name t.start lot parts (suc left) waiting m →
          MayPutStart board (beside t.name n) below m.me
      put-may lot lot_is waiting puts =
          let part = part-start n numbers (asked_of t.start) t.start (node_of t.start) left here in
          let at : slice_index parts left ≡ n = range-at first count left within in
          record {
            owed = owed_below t.name t.start lot n;
            bare = subst (λ k. OwesBare board (beside t.name k) (owed_below t.name t.start lot k) m.me) at
                (puts.starting.bare left (omega arith));
            entry = _;
            below_is = part;
            key = ap plan_of part ∙ on.taken.ready.is.key;
            node = ap node_of part;
            draws = draws t.start refl ∙ sym lot_is;
            begins = (begins-at true (λ e. cc)).begins;
            calmly = λ silent. ((begins-at false (λ e. calm silent)).fits.1 refl).start;
          }

-- Where the child saw a request the node looked, and read one.
pub may-start : (board : Board Blueprint) (t : Stepping) (parcel : Delivery) (old : HandSeat) → MayBegin board t parcel old → (new : HandSeat)
    (answer : Bool) → Looks board t parcel.saw answer old new → answer ≡ true → (shown : List Datum) → shown ≡ Row (numbers_in parcel.completion) ∷ [] →
    MayStart board t parcel shown new
may-start board t parcel old may new answer looks is shown shown_is =
    let on = may.goes_on in
    record {
      may = record {
        goes_on = record {
          taken = taken-on board t old new looks.keeps on.taken;
          child = on.child;
          job = on.job;
          node_is = on.node_is;
          has = parcel-on board t old new looks.keeps parcel on.has;
        };
        some = may.some;
      };
      row_is = shown_is;
      seen = λ saw. (looks.looked saw).yes is;
    }

-- awaiting shows the hand no request
pub awaits-sees : (board : Board Blueprint) (t : Stepping) (kept : Option Delivery) (children : List ℕ) (old new : HandSeat) →
    AwaitsMany board t kept children old new → has_seen board.frame.tree new.me.0 t.name ≡ has_seen board.frame.tree old.me.0 t.name
awaits-sees board t kept children old new awaits =
    ap (λ (z : Seated Item Entry). has_seen board.frame.tree z.0 t.name) awaits.awaits.did.me_is
    ∙ ap (λ (z : Seated Item Entry). has_seen board.frame.tree z.0 t.name) awaits.put.me_is
