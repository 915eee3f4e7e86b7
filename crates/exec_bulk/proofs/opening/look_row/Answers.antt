use Rattle.std.proofs.Common.{length, ap, subst, ◌∙◌}
use Rattle.std.specs.Prelude.{IfSome, Option}
use Rattle.home_items.specs.Items.{parcel_in}
use Rattle.home_items.specs.Parcels.{Delivery, IsDelivery}
use Rattle.op_slot.proofs.Loans.{if-there}
use Rattle.step_parts.proofs.Unkept.{open-home}
use Rattle.exec_bulk.specs.Rows.{numbers_in}
use Rattle.exec_bulk.proofs.Opened.{lent-one, looked-on, shown-done, shown-saw}
use Rattle.exec_bulk.proofs.opening.look_row.Goals as goal

pub item_mut-requires-clause-home : goal.item_mut-requires-clause-home
item_mut-requires-clause-home g c κs =
    let may = c.requires.may in
    rw (c.site.view_is, c.name.ensures)
    (open-home c.args.site.now c.args.taken.now c.args.hand.now (record { inside = may.inside; kid = may.kid; is = may.opened }))

pub returns : goal.returns
returns g c =
    let board = c.args.site.now in
    let t = c.args.taken.now in
    let item = c.in-Some.item.now in
    let value = rw (c.site.view_is, c.name.ensures) at c.item_mut.ensures.value in
    let left = rw (c.site.view_is, c.name.ensures) at (if-there _ (c.item_mut.follows.holds item) c.in-Some.is) in
    record {
      still = looked-on board t item c.args.hand.now _ left.stays left.swapped;
      shows = λ inside kid lies kept is.
          let same = lent-one board t c.args.hand.now inside kid lies c.item_mut.result value c.in-Some.item c.in-Some.is in
          record {
            room_is = ap length
                (c.numbers_of.ensures.numbers
                ∙ ap numbers_in (shown-done item inside same kept is c.kept.result.now c.kept.ensures.shown));
            saw_is = c.kept_saw.ensures ∙ shown-saw item inside same kept is;
            lawful = subst (λ (o : Option Delivery). IfSome o IsDelivery) (ap parcel_in same ∙ is) c.kept.ensures.lawful;
          };
    }
