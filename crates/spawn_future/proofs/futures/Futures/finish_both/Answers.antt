use Rattle.std.proofs.Common.{inl, inr, sym, subst}
use Rattle.std.specs.Prelude.{List, Option}
use Rattle.op_slot.proofs.Staying.{stays-on}
use Rattle.node_walks.proofs.Unready.{unready-leaves}
use Rattle.table_steps.specs.declared.block.Block.{Block}
use Rattle.table_steps.specs.Views.{IsPlaceIn}
use Rattle.spawn_future.specs.declared.future.Future.{Future}
use Rattle.spawn_future.specs.Counts.{BeginsAndEnds}
use Rattle.spawn_future.specs.Polls.{EndsSlotAt, IsIncomplete}
use Rattle.spawn_future.proofs.Counted.{counts-same, counts-on}
use Rattle.spawn_future.proofs.Served.{holds-keeping, keeping-on, leaves-aside, ended-operation, ended-counts}
use Rattle.spawn_future.proofs.Slotted.{found-block, found-waits}
use Rattle.spawn_future.proofs.futures.Futures.finish_both.Goals as goal

pub end-requires-clause-keeping : goal.end-requires-clause-keeping
end-requires-clause-keeping g c =
    let did = c.put_back.ensures.rests in
    rw c.site.view_is
    (holds-keeping c.args.site.now c.args.self.now c.args.served.taken.from c.put_back.new.hand c.requires.keeping did.stays.hand did.rests did.aside)

pub end-requires-clause-over : goal.end-requires-clause-over
end-requires-clause-over g c = rw c.site.view_is c.requires.has.taken.site.over

pub end-requires-clause-within : goal.end-requires-clause-within
end-requires-clause-within g c = c.requires.found.within

pub end-requires-clause-has : goal.end-requires-clause-has
end-requires-clause-has g c = found-block c.args.at.name c.args.self.now c.args.found c.requires.found

pub join_again-requires-clause-may : goal.join_again-requires-clause-may
join_again-requires-clause-may g c κs within =
    let keeping = rw c.site.view_is at c.end.ensures.keeping in
    let has = c.requires.has in
    record {
      of = keeping.hand_of;
      site = has.taken.site;
      ahead = has.ahead;
      place = subst (λ x. IsPlaceIn c.args.site.now x) has.name_is has.taken.ready.is.place;
      first = keeping.first;
      rests = keeping.rests;
    }

pub join_again-requires-clause-ended : goal.join_again-requires-clause-ended
join_again-requires-clause-ended g c κs within =
    let board = c.args.site.now in
    let slots = c.args.self.now in
    let did = c.put_back.ensures.rests in
    let parked = holds-keeping board slots c.args.served.taken.from c.put_back.new.hand c.requires.keeping did.stays.hand did.rests did.aside in
    ended-operation board slots c.args.found.slot c.args.found.block c.put_back.new.hand.me c.end.new.hand.me c.in-Some.ended parked.keeps
    (found-block c.args.at.name slots c.args.found c.requires.found) (rw c.site.view_is at c.in-Some.ensures.ended).ends

pub returns-in-Some : goal.returns-in-Some
returns-in-Some g c =
    let board = c.args.site.now in
    let slots = c.args.self.now in
    let later = c.end.new.self in
    let from = c.args.served.taken.from in
    let parked = c.put_back.new.hand in
    let emptied = c.end.new.hand in
    let new = c.join_again.new.hand in
    let back = c.put_back.ensures in
    let end_keeping = rw c.site.view_is at c.end.ensures.keeping in
    let ended = rw c.site.view_is at c.in-Some.ensures.ended in
    let did = c.join_again.ensures in
    let found = c.args.found in
    let parked_keeping = holds-keeping board slots from parked c.requires.keeping back.rests.stays.hand back.rests.rests back.rests.aside in
    let waits = found-waits c.args.at.name slots found c.requires.found in
    let block = found-block c.args.at.name slots found c.requires.found in
    record {
      keeping = keeping-on board later emptied new end_keeping did.rests.stays.hand did.rests.rests did.rests.aside;
      stays = stays-on board from emptied new
          (stays-on board from parked emptied back.rests.stays (record { same = c.end.ensures.same; hand = end_keeping.hand_of })) did.rests.stays;
      mail = g.met.M.Mail.on _ _ _ back.mail did.mail;
      leaves = counts-on board slots later later from.me emptied.me new.me
          (counts-on board slots slots later from.me parked.me emptied.me (counts-same board slots from.me parked.me back.rests.aside)
          (ended-counts board found.slot found.block slots later parked.me emptied.me c.in-Some.ended parked_keeping.keeps block ended))
          (counts-same board later emptied.me new.me did.rests.aside);
      ends = inr (record {
        parked = parked;
        back = back.back;
        slot = found.slot;
        future = waits.0;
        waits = waits.1;
        ended = c.in-Some.ended;
        emptied = emptied;
        ends = subst (λ (b : Block). EndsSlotAt board found.slot b slots later parked.me emptied.me c.in-Some.ended) (sym waits.2) ended;
        goes_on = did.joins;
      });
    }

pub returns-in-None : goal.returns-in-None
returns-in-None g c =
    let board = c.args.site.now in
    let slots = c.args.self.now in
    let later = c.end.new.self in
    let from = c.args.served.taken.from in
    let parked = c.put_back.new.hand in
    let new = c.end.new.hand in
    let back = c.put_back.ensures in
    let end_keeping = rw c.site.view_is at c.end.ensures.keeping in
    let found = c.args.found in
    let none = rw c.site.view_is at c.in-None.ensures.none in
    let waits = found-waits c.args.at.name slots found c.requires.found in
    let keeps = leaves-aside parked.me new.me (unready-leaves board found.block parked.me new.me none.read) in
    record {
      keeping = end_keeping;
      stays = stays-on board from parked new back.rests.stays (record { same = c.end.ensures.same; hand = end_keeping.hand_of });
      mail = back.mail;
      leaves = subst (λ (l : List (Option Future)). BeginsAndEnds board slots l from.me new.me) (sym none.slots)
          (counts-on board slots slots slots from.me parked.me new.me (counts-same board slots from.me parked.me back.rests.aside)
          (counts-same board slots parked.me new.me keeps));
      ends = inl (record {
        parked = parked;
        back = back.back;
        waits = record {
          slot = found.slot;
          future = waits.0;
          waits = waits.1;
          incomplete = subst (λ (b : Block). IsIncomplete board b slots later parked.me new.me) (sym waits.2) none;
        };
      });
    }
