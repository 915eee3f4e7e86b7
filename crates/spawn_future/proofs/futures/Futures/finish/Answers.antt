use Rattle.std.proofs.Common.{Some, inl, inr, refl, sym, ◌∙◌}
use Rattle.serve_ahead.proofs.AtHand.{has-bare}
use Rattle.spawn_future.proofs.Counted.{counts-same, counts-on}
use Rattle.spawn_future.proofs.Served.{holds-keeping, abandons-either, either-kept, either-counts}
use Rattle.spawn_future.proofs.futures.Futures.finish.Goals as goal

pub fail_ahead-requires-clause-fails : goal.fail_ahead-requires-clause-fails
fail_ahead-requires-clause-fails g c κs within = sym c.is_value.ensures ∙ c.if-not-is_value.true

pub give_up-requires-clause-has : goal.give_up-requires-clause-has
give_up-requires-clause-has g c κs within =
    has-bare c.args.site.now c.args.at c.args.taken c.args.parcel c.args.hand.now c.requires.has

pub returns-then-not-is_value : goal.returns-then-not-is_value
returns-then-not-is_value g c =
    let board = c.args.site.now in
    let slots = c.args.self.now in
    let later = c.abandon.new.self in
    let from = c.args.taken.from in
    let new = c.fail_ahead.new.hand in
    let did = c.fail_ahead.ensures in
    let holds = c.requires.keeping in
    let abandons = abandons-either c.args.at.name slots later c.abandon.result c.abandon.ensures.abandoned c.abandon.ensures.unknown in
    record {
      keeping = holds-keeping board later from new
          (record {
            hand_of = holds.hand_of;
            first = holds.first;
            settled = holds.settled;
            keeps = either-kept board c.args.at.name slots later from.me abandons holds.keeps;
          })
          did.rests.stays.hand did.rests.rests did.rests.aside;
      stays = did.rests.stays;
      mail = did.mail;
      leaves = counts-on board slots later later from.me from.me new.me (either-counts board c.args.at.name slots later from.me abandons)
          (counts-same board later from.me new.me did.rests.aside);
      ends = inl (record { fails = sym c.is_value.ensures ∙ c.if-not-is_value.true; abandons = abandons; done = did.serves });
    }

pub returns-in-Some : goal.returns-in-Some
returns-in-Some g c =
    let did = c.finish_both.ensures in
    record {
      keeping = did.keeping;
      stays = did.stays;
      mail = did.mail;
      leaves = did.leaves;
      ends = inr (inr (sym c.is_value.ensures ∙ c.if-not-is_value.false, did.ends));
    }

pub returns-in-None : goal.returns-in-None
returns-in-None g c =
    let board = c.args.site.now in
    let slots = c.args.self.now in
    let from = c.args.taken.from in
    let new = c.give_up.new.hand in
    let did = c.give_up.ensures in
    record {
      keeping = holds-keeping board slots from new c.requires.keeping did.rests.stays.hand did.rests.rests did.rests.aside;
      stays = did.rests.stays;
      mail = did.mail;
      leaves = counts-same board slots from.me new.me did.rests.aside;
      ends = inr (inl (record {
        value = sym c.is_value.ensures ∙ c.if-not-is_value.false;
        nowhere = c.in-None.ensures.none;
        slots = refl;
        done = did.serves;
      }));
    }
