use Rattle.std.proofs.Common.{None, inl, inr, refl}
use Rattle.spawn_future.proofs.Counted.{counts-same}
use Rattle.spawn_future.proofs.Served.{holds-keeping}
use Rattle.spawn_future.proofs.Slotted.{found-waits}
use Rattle.spawn_future.proofs.futures.Futures.begin.Goals as goal

pub returns-in-Some : goal.returns-in-Some
returns-in-Some g c =
    let board = c.args.site.now in
    let slots = c.args.self.now in
    let from = c.args.taken.from in
    let new = c.begin_second.new.hand in
    let did = c.begin_second.ensures in
    let waits = found-waits c.args.at.name slots c.in-Some.found c.in-Some.ensures.found in
    record {
      keeping = holds-keeping board slots from new c.requires.keeping did.rests.stays.hand did.rests.rests did.rests.aside;
      stays = did.rests.stays;
      mail = did.mail;
      leaves = counts-same board slots from.me new.me did.rests.aside;
      starts = inl (record {
        slot = c.in-Some.found.slot;
        future = waits.0;
        waits = waits.1;
        slots = refl;
        begins = did.begins;
      });
    }

pub returns-in-None : goal.returns-in-None
returns-in-None g c =
    let did = c.spawn_first.ensures in
    record {
      keeping = did.keeping;
      stays = did.stays;
      mail = did.mail;
      leaves = did.leaves;
      starts = inr did.starts;
    }
