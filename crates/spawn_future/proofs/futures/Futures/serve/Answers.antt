use Rattle.std.proofs.Common.{None, Some, inl, inr, refl, sym, subst}
use Rattle.std.specs.Prelude.{Option}
use Rattle.life_rules.specs.declared.event.Resting.TheVariants.{Parked}
use Rattle.op_slot.proofs.Staying.{stays-on}
use Rattle.home_items.specs.Parcels.{Delivery}
use Rattle.node_walks.proofs.Took.{first-serves}
use Rattle.serve_ahead.specs.Takes.{HasAtHand}
use Rattle.spawn_future.proofs.Counted.{counts-same, counts-on}
use Rattle.spawn_future.proofs.Served.{keeping-on, taken-keeping}
use Rattle.spawn_future.proofs.Visited.{took-parked}
use Rattle.spawn_future.proofs.futures.Futures.serve.Goals as goal

pub take_ahead-requires-clause-hand : goal.take_ahead-requires-clause-hand
take_ahead-requires-clause-hand g c = c.requires.keeping.hand_of

pub take_ahead-requires-clause-serves : goal.take_ahead-requires-clause-serves
take_ahead-requires-clause-serves g c = first-serves Parked c.args.hand.now.me.0 c.requires.keeping.first

pub take_ahead-requires-clause-rests : goal.take_ahead-requires-clause-rests
take_ahead-requires-clause-rests g c = c.requires.keeping.rests

pub begin-requires-clause-keeping : goal.begin-requires-clause-keeping
begin-requires-clause-keeping g c κs within =
    taken-keeping c.args.site.now c.args.self.now c.args.at c.in-Some.served c.args.hand.now c.take_ahead.new.hand c.requires.keeping c.in-Some.ensures.took

pub begin-requires-clause-has : goal.begin-requires-clause-has
begin-requires-clause-has g c κs within =
    subst (λ (o : Option Delivery). HasAtHand c.args.site.now c.args.at c.in-Some.served.taken o c.take_ahead.new.hand) c.in-None-second.is
    c.in-Some.ensures.took.has

pub finish-requires-clause-keeping : goal.finish-requires-clause-keeping
finish-requires-clause-keeping g c κs within =
    taken-keeping c.args.site.now c.args.self.now c.args.at c.in-Some.served c.args.hand.now c.take_ahead.new.hand c.requires.keeping c.in-Some.ensures.took

pub finish-requires-clause-has : goal.finish-requires-clause-has
finish-requires-clause-has g c κs within =
    subst (λ (o : Option Delivery). HasAtHand c.args.site.now c.args.at c.in-Some.served.taken o c.take_ahead.new.hand) c.in-Some-second.is
    c.in-Some.ensures.took.has

pub returns-in-None : goal.returns-in-None
returns-in-None g c =
    let board = c.args.site.now in
    let slots = c.args.self.now in
    let old = c.args.hand.now in
    let new = c.take_ahead.new.hand in
    let missed = c.in-None.ensures.missed in
    let stays = c.take_ahead.ensures.stays in
    record {
      keeping = keeping-on board slots old new c.requires.keeping stays.hand missed.rests missed.looks.aside;
      stays = stays;
      mail = g.met.M.Mail.none c.args.mail.now;
      leaves = counts-same board slots old.me new.me missed.looks.aside;
      served = tt;
      taken = tt;
      slots = refl;
      missed = missed;
    }

pub returns-in-None-second : goal.returns-in-None-second
returns-in-None-second g c =
    let board = c.args.site.now in
    let slots = c.args.self.now in
    let old = c.args.hand.now in
    let from = c.in-Some.served.taken.from in
    let new = c.begin.new.hand in
    let took = c.in-Some.ensures.took in
    let did = c.begin.ensures in
    record {
      keeping = did.keeping;
      stays = stays-on board old from new took.stays did.stays;
      mail = did.mail;
      leaves = counts-on board slots slots c.begin.new.self old.me from.me new.me (counts-same board slots old.me from.me took.before) did.leaves;
      served = record {
        served = c.in-Some.served;
        held = c.take_ahead.new.hand;
        took = took;
        goes_on = inl (c.in-None-second.is, did.starts);
      };
      taken = took-parked board slots slots c.begin.new.self c.args.at c.in-Some.served old c.take_ahead.new.hand new c.requires.site
          c.requires.place c.requires.keeping took did.leaves;
      slots = tt;
      missed = tt;
    }

pub returns-in-Some-second : goal.returns-in-Some-second
returns-in-Some-second g c =
    let board = c.args.site.now in
    let slots = c.args.self.now in
    let old = c.args.hand.now in
    let from = c.in-Some.served.taken.from in
    let new = c.finish.new.hand in
    let took = c.in-Some.ensures.took in
    let did = c.finish.ensures in
    record {
      keeping = did.keeping;
      stays = stays-on board old from new took.stays did.stays;
      mail = did.mail;
      leaves = counts-on board slots slots c.finish.new.self old.me from.me new.me (counts-same board slots old.me from.me took.before) did.leaves;
      served = record {
        served = c.in-Some.served;
        held = c.take_ahead.new.hand;
        took = took;
        goes_on = inr (c.in-Some-second.parcel, c.in-Some-second.is, did.ends);
      };
      taken = took-parked board slots slots c.finish.new.self c.args.at c.in-Some.served old c.take_ahead.new.hand new c.requires.site
          c.requires.place c.requires.keeping took did.leaves;
      slots = tt;
      missed = tt;
    }
