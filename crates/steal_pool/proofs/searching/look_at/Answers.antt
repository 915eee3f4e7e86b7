use Rattle.std.proofs.Common.{true, refl}
use Rattle.std.proofs.lemmas.Bool.{both_ways}
use Rattle.node_tree.specs.declared.context.Context.TheVariants.{Pool}
use Rattle.table_words.specs.Layouts.{OfControl, index}
use Rattle.op_slot.proofs.Staying.{stays-on}
use Rattle.exec_recv.proofs.Asiding.{aside-on}
use Rattle.node_walks.proofs.Read.{looked-rests, looked-aside, looked-only, read-unready}
use Rattle.deck_relay.specs.Desks.{desk-here, desk-on}
use Rattle.steal_pool.proofs.Searched.{finds-before, looks-before, served-before}
use Rattle.steal_pool.proofs.searching.look_at.Goals as goal

pub returns-in-None : goal.returns-in-None
returns-in-None g c =
    let board = c.args.site.now in
    let i = index board.frame.layout (OfControl c.args.block c.args.node) in
    let old = c.args.hand.now in
    let new = c.ready_at.new.hand in
    let read = rw c.site.view_is at c.ready_at.ensures.read in
    record {
      stays = rw c.site.view_is at c.ready_at.ensures.stays;
      rests = looked-rests i read.word old.me new.me read.me_is c.requires.rests;
      aside = looked-aside i read.word old.me new.me read.me_is;
      served = tt;
      none = λ not. (not, read-unready board Pool c.args.block c.args.node c.ready_at.result old new read c.in-None.is);
      looks = looked-only i read.word old.me new.me read.me_is;
      still = λ not. refl {a = c.args.found.now};
      desk = desk-here c.args.offers.now.desk;
    }

pub returns-then-submit_where : goal.returns-then-submit_where
returns-then-submit_where g c =
    let i = index c.args.site.now.frame.layout (OfControl c.args.block c.args.node) in
    let old = c.args.hand.now in
    let new = c.ready_at.new.hand in
    let read = rw c.site.view_is at c.ready_at.ensures.read in
    record {
      stays = rw c.site.view_is at c.ready_at.ensures.stays;
      rests = looked-rests i read.word old.me new.me read.me_is c.requires.rests;
      aside = looked-aside i read.word old.me new.me read.me_is;
      served = tt;
      none = λ not. absurd (both_ways true not refl);
      looks = looked-only i read.word old.me new.me read.me_is;
      still = λ not. absurd (both_ways c.submit_where.result (c.submit_where.ensures.none not) c.if-submit_where.true);
      desk = c.submit_where.ensures.desk;
    }

pub serve_place-requires-clause-rests : goal.serve_place-requires-clause-rests
serve_place-requires-clause-rests g c κs within =
    let read = rw c.site.view_is at c.ready_at.ensures.read in
    looked-rests (index c.args.site.now.frame.layout (OfControl c.args.block c.args.node)) read.word c.args.hand.now.me c.ready_at.new.hand.me
    read.me_is c.requires.rests

pub returns-else-submit_where : goal.returns-else-submit_where
returns-else-submit_where g c =
    let board = c.args.site.now in
    let does = g.T.Stepper.does in
    let old = c.args.hand.now in
    let between = c.ready_at.new.hand in
    let new = c.serve_place.new.hand in
    let read = rw c.site.view_is at c.ready_at.ensures.read in
    let looked = looked-only (index board.frame.layout (OfControl c.args.block c.args.node)) read.word old.me between.me read.me_is in
    record {
      stays = stays-on board old between new (rw c.site.view_is at c.ready_at.ensures.stays) c.serve_place.ensures.stays;
      rests = c.serve_place.ensures.rests;
      aside = aside-on old.me between.me new.me looked.aside c.serve_place.ensures.aside;
      served = served-before board old.me between.me new.me does c.serve_place.result looked.aside c.serve_place.ensures.served;
      none = finds-before board old.me between.me new.me c.args.block c.args.node c.args.found.now c.serve_place.result looked.aside
          c.serve_place.ensures.unready;
      looks = looks-before board old.me between.me new.me c.serve_place.result looked c.serve_place.ensures.looks;
      still = λ not. refl {a = c.args.found.now};
      desk = desk-on c.args.offers.now.desk c.submit_where.new.self.desk c.serve_place.new.mail.desk c.submit_where.ensures.desk
          (desk-on c.submit_where.new.self.desk c.get_up.new.self.desk c.serve_place.new.mail.desk c.get_up.ensures
          c.serve_place.ensures.mail);
    }

pub serve_place-requires-clause-hand : goal.serve_place-requires-clause-hand
serve_place-requires-clause-hand g c κs within = (rw c.site.view_is at c.ready_at.ensures.stays).hand
