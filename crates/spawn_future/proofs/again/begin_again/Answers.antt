use Rattle.std.proofs.Common.{None, Some, inl, inr, refl, sym, subst}
use Rattle.std.specs.Prelude.{Option, IsSome}
use Rattle.life_rules.specs.declared.event.Resting.TheVariants.{Parked}
use Rattle.home_items.specs.Parcels.{Delivery}
use Rattle.node_walks.proofs.Took.{first-serves}
use Rattle.serve_ahead.specs.Ends.{PutsBack}
use Rattle.serve_ahead.specs.Takes.{HasAtHand}
use Rattle.spawn_future.proofs.Served.{took-rests}
use Rattle.spawn_future.proofs.again.begin_again.Goals as goal

pub take_ahead-requires-clause-serves : goal.take_ahead-requires-clause-serves
take_ahead-requires-clause-serves g c = first-serves Parked c.args.hand.now.me.0 c.requires.may.first

pub begin_second-requires-clause-has : goal.begin_second-requires-clause-has
begin_second-requires-clause-has g c κs within =
    subst (λ (o : Option Delivery). HasAtHand c.args.site.now c.args.at c.in-Some.served.taken o c.take_ahead.new.hand) c.in-None-second.is
    c.in-Some.ensures.took.has

pub put_back-requires-clause-has : goal.put_back-requires-clause-has
put_back-requires-clause-has g c κs within =
    subst (λ (o : Option Delivery). HasAtHand c.args.site.now c.args.at c.in-Some.served.taken o c.take_ahead.new.hand) c.in-Some-second.is
    c.in-Some.ensures.took.has

pub returns-in-None : goal.returns-in-None
returns-in-None g c =
    let missed = c.in-None.ensures.missed in
    record {
      starts = inr (inl missed);
      rests = record { stays = c.take_ahead.ensures.stays; rests = missed.rests; aside = missed.looks.aside };
      mail = g.met.M.Mail.none c.args.mail.now;
    }

pub returns-in-None-second : goal.returns-in-None-second
returns-in-None-second g c =
    let took = c.in-Some.ensures.took in
    record {
      starts = inl (record {
        served = c.in-Some.served;
        none = c.in-None-second.is;
        held = c.take_ahead.new.hand;
        took = took;
        begins = c.begin_second.ensures.begins;
      });
      rests = took-rests c.args.site.now c.args.at c.in-Some.served c.args.hand.now c.take_ahead.new.hand c.begin_second.new.hand took
          c.begin_second.ensures.rests;
      mail = c.begin_second.ensures.mail;
    }

pub returns-in-Some-second : goal.returns-in-Some-second
returns-in-Some-second g c =
    let took = c.in-Some.ensures.took in
    let board = c.args.site.now in
    let held = c.take_ahead.new.hand in
    let new = c.put_back.new.hand in
    record {
      starts = inr (inr (record {
        served = c.in-Some.served;
        found = subst (λ (o : Option Delivery). IsSome o) (sym c.in-Some-second.is) refl;
        held = held;
        took = took;
        back = subst (λ (o : Option Delivery). PutsBack board (record { taken = c.in-Some.served.taken; second = o }) held new)
            (sym c.in-Some-second.is) c.put_back.ensures.back;
      }));
      rests = took-rests board c.args.at c.in-Some.served c.args.hand.now held new took c.put_back.ensures.rests;
      mail = c.put_back.ensures.mail;
    }
