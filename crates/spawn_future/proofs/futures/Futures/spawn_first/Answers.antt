use Rattle.std.proofs.Common.{List, None, inl, inr, refl, sym, ap, ◌∙◌, subst}
use Rattle.std.specs.Prelude.{Option, IsOk}
use Rattle.std.proofs.lemmas.Bool.{false≢true}
use Rattle.table_steps.specs.Views.{IsPlaceIn}
use Rattle.op_slot.proofs.Staying.{stays-on}
use Rattle.home_items.specs.declared.entry.Entry.{Entry}
use Rattle.home_items.specs.Entries.{child_of}
use Rattle.node_walks.specs.Starts.{CanRun}
use Rattle.serve_ahead.specs.Spawned.{spawned_start}
use Rattle.serve_ahead.proofs.AtHand.{has-still}
use Rattle.serve_ahead.proofs.Spawning.{spawned-runs}
use Rattle.spawn_future.specs.declared.future.Future.{Future}
use Rattle.spawn_future.specs.Counts.{BeginsAndEnds}
use Rattle.spawn_future.specs.Spawns.{Spawns, Refuses}
use Rattle.spawn_future.proofs.Counted.{counts-same, counts-on}
use Rattle.spawn_future.proofs.Served.{holds-keeping, keeping-on, spawned-counts, refused-keeps}
use Rattle.spawn_future.proofs.futures.Futures.spawn_first.Goals as goal

pub put_back-requires-clause-has : goal.put_back-requires-clause-has
put_back-requires-clause-has g c κs within =
    has-still c.args.site.now c.args.at c.args.taken None c.args.hand.now c.requires.has c.first_env-spawned.new.hand c.first_env-spawned.ensures.keeps

pub spawn-requires-clause-keeping : goal.spawn-requires-clause-keeping
spawn-requires-clause-keeping g c κs within =
    let did = c.put_back.ensures.rests in
    holds-keeping c.args.site.now c.args.self.now c.args.taken.from c.put_back.new.hand c.requires.keeping did.stays.hand did.rests did.aside

pub spawn-requires-clause-site : goal.spawn-requires-clause-site
spawn-requires-clause-site g c κs within = c.requires.has.taken.site

pub spawn-requires-clause-start : goal.spawn-requires-clause-start
spawn-requires-clause-start g c κs within =
    subst (λ (s : List Entry). CanRun c.args.site.now s) (sym c.in-Ok.ensures.ok)
    (spawned-runs c.args.site.now c.args.at c.args.taken None c.args.hand.now c.requires.has)

pub spawn-requires-clause-names : goal.spawn-requires-clause-names
spawn-requires-clause-names g c κs within = ap child_of c.in-Ok.ensures.ok

pub begin_again-requires-clause-may : goal.begin_again-requires-clause-may
begin_again-requires-clause-may g c κs within =
    let keeping = c.spawn.ensures.keeping in
    let has = c.requires.has in
    record {
      of = keeping.hand_of;
      site = has.taken.site;
      ahead = has.ahead;
      place = subst (λ x. IsPlaceIn c.args.site.now x) has.name_is has.taken.ready.is.place;
      first = keeping.first;
      rests = keeping.rests;
    }

pub returns-in-Err : goal.returns-in-Err
returns-in-Err g c =
    let board = c.args.site.now in
    let slots = c.args.self.now in
    let from = c.args.taken.from in
    let new = c.put_back.new.hand in
    let did = c.put_back.ensures in
    record {
      keeping = holds-keeping board slots from new c.requires.keeping did.rests.stays.hand did.rests.rests did.rests.aside;
      stays = did.rests.stays;
      mail = did.mail;
      leaves = counts-same board slots from.me new.me did.rests.aside;
      starts = inr (record {
        copied = c.first_env-spawned.new.hand;
        keeps = c.first_env-spawned.ensures.keeps;
        parked = new;
        back = did.back;
        slots = refl;
        unowned = c.requires.unowned;
        cause = inl ((λ place. absurd (false≢true (subst (λ r. IsOk r) c.in-Err.is (c.first_env-spawned.ensures.in_place place)))), refl);
      });
    }

pub returns-in-Ok-spawn : goal.returns-in-Ok-spawn
returns-in-Ok-spawn g c =
    let board = c.args.site.now in
    let slots = c.args.self.now in
    let later = c.spawn.new.self in
    let from = c.args.taken.from in
    let parked = c.put_back.new.hand in
    let spawned = c.spawn.new.hand in
    let new = c.begin_again.new.hand in
    let back = c.put_back.ensures in
    let did = c.begin_again.ensures in
    let parked_keeping = holds-keeping board slots from parked c.requires.keeping back.rests.stays.hand back.rests.rests back.rests.aside in
    let spawns = subst (λ (s : List Entry). Spawns board c.args.at.name s slots later parked spawned) c.in-Ok.ensures.ok c.in-Ok-spawn.ensures.spawned in
    let spawn_stays = stays-on board from parked spawned back.rests.stays
    (record { same = c.spawn.ensures.same; hand = c.spawn.ensures.keeping.hand_of }) in
    record {
      keeping = keeping-on board later spawned new c.spawn.ensures.keeping did.rests.stays.hand did.rests.rests did.rests.aside;
      stays = stays-on board from spawned new spawn_stays did.rests.stays;
      mail = g.met.M.Mail.on _ _ _ (g.met.M.Mail.on _ _ _ back.mail c.spawn.ensures.mail) did.mail;
      leaves = counts-on board slots later later from.me spawned.me new.me
          (counts-on board slots slots later from.me parked.me spawned.me (counts-same board slots from.me parked.me back.rests.aside)
          (spawned-counts board c.args.at.name (spawned_start c.args.at.first c.args.taken.start) slots later parked spawned parked_keeping spawns))
          (counts-same board later spawned.me new.me did.rests.aside);
      starts = inl (record {
        copied = c.first_env-spawned.new.hand;
        keeps = c.first_env-spawned.ensures.keeps;
        parked = parked;
        back = back.back;
        spawned = spawned;
        spawns = spawns;
        goes_on = did.starts;
      });
    }

pub returns-in-Err-spawn : goal.returns-in-Err-spawn
returns-in-Err-spawn g c =
    let board = c.args.site.now in
    let slots = c.args.self.now in
    let from = c.args.taken.from in
    let parked = c.put_back.new.hand in
    let new = c.spawn.new.hand in
    let back = c.put_back.ensures in
    let fault = c.in-Err-spawn.fault in
    let refused = subst (λ (s : List Entry). Refuses board s slots parked new fault) c.in-Ok.ensures.ok c.in-Err-spawn.ensures.refused in
    record {
      keeping = c.spawn.ensures.keeping;
      stays = stays-on board from parked new back.rests.stays (record { same = c.spawn.ensures.same; hand = c.spawn.ensures.keeping.hand_of });
      mail = g.met.M.Mail.on _ _ _ back.mail c.spawn.ensures.mail;
      leaves = subst (λ (l : List (Option Future)). BeginsAndEnds board slots l from.me new.me) (sym c.in-Err-spawn.ensures.slots)
          (counts-on board slots slots slots from.me parked.me new.me (counts-same board slots from.me parked.me back.rests.aside)
          (counts-same board slots parked.me new.me
          (refused-keeps board (spawned_start c.args.at.first c.args.taken.start) slots parked new fault refused)));
      starts = inr (record {
        copied = c.first_env-spawned.new.hand;
        keeps = c.first_env-spawned.ensures.keeps;
        parked = parked;
        back = back.back;
        slots = c.in-Err-spawn.ensures.slots;
        unowned = c.requires.unowned;
        cause = inr (fault, refused);
      });
    }
