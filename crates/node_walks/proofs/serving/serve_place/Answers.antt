use Rattle.std.proofs.Common.{refl, sym, ◌∙◌, subst}
use Rattle.life_rules.specs.declared.event.Resting.{Resting}
use Rattle.table_words.specs.Layouts.{OfControl, index}
use Rattle.table_steps.specs.Takes.{MayServe}
use Rattle.op_slot.proofs.Staying.{stays-here, stays-on}
use Rattle.exec_recv.proofs.Asiding.{aside-on}
use Rattle.node_walks.specs.Mails.{HearsEach}
use Rattle.node_walks.specs.Serving.{IsUnready, OnlyServes, ServesNode}
use Rattle.exec_recv.proofs.Since.{since-before}
use Rattle.node_walks.proofs.Read.{looked-rests, looked-aside, looked-only, looks-here, looks-on, read-unready, read-place, read-there}
use Rattle.node_walks.proofs.Took.{only-before, serves-before, serves-still}
use Rattle.node_walks.proofs.serving.serve_place.Goals as goal

pub loop-init : goal.loop-init
loop-init g c =
    record {
      next = tt;
      finite = tt;
      stays = stays-here c.args.site.now c.args.hand.now c.requires.hand;
      rests = c.requires.rests;
      looks = looks-here c.args.hand.now.me;
      mail = g.met.M.Mail.none c.args.mail.now;
      unheard = refl;
    }

pub serve-requires-clause-place : goal.serve-requires-clause-place
serve-requires-clause-place g c κs within =
    rw (← c.site.view_is)
    (read-place c.site.inside.table.now c.args.on c.args.block c.args.node c.ready_at.result c.in-Some-ready_at.name c.loop.hand c.ready_at.new.hand
    c.ready_at.ensures.read c.in-Some-ready_at.is (rw (← c.site.view_is) at c.requires.block) (rw (← c.site.view_is) at c.requires.node))

pub serve-requires-clause-serves : goal.serve-requires-clause-serves
serve-requires-clause-serves g c κs within =
    let i = index c.site.inside.table.now.frame.layout (OfControl c.args.block c.args.node) in
    let old = c.args.hand.now.me in
    let between = c.loop.hand.me in
    let new = c.ready_at.new.hand.me in
    serves-still c.resting-from.result old new
    (aside-on old between new c.loop.invariant.looks.aside (looked-aside i c.ready_at.ensures.read.word between new c.ready_at.ensures.read.me_is))
    (subst (λ (from : Resting). MayServe from old.0) (sym c.resting-from.ensures) c.requires.serves)

pub serve-requires-clause-rests : goal.serve-requires-clause-rests
serve-requires-clause-rests g c κs within =
    looked-rests (index c.site.inside.table.now.frame.layout (OfControl c.args.block c.args.node)) c.ready_at.ensures.read.word c.loop.hand.me
    c.ready_at.new.hand.me c.ready_at.ensures.read.me_is c.loop.invariant.rests

pub ready_at-requires-clause-table : goal.ready_at-requires-clause-table
ready_at-requires-clause-table g c κs = (rw (← c.site.view_is) at c.loop.invariant.stays).hand

pub ready_at-requires-clause-block : goal.ready_at-requires-clause-block
ready_at-requires-clause-block g c κs = rw (← c.site.view_is) at c.requires.block

pub ready_at-requires-clause-node : goal.ready_at-requires-clause-node
ready_at-requires-clause-node g c κs = rw (← c.site.view_is) at c.requires.node

pub serve-requires-clause-hand : goal.serve-requires-clause-hand
serve-requires-clause-hand g c κs within = rw (← c.site.view_is) c.ready_at.ensures.stays.hand

pub serve-requires-clause-site : goal.serve-requires-clause-site
serve-requires-clause-site g c κs within = c.requires.site

pub serve-requires-clause-sync : goal.serve-requires-clause-sync
serve-requires-clause-sync g c κs within = c.requires.sync

pub loop-preserved : goal.loop-preserved
loop-preserved g c =
    let before = c.loop.invariant in
    let looked = looked-only (index c.site.inside.table.now.frame.layout (OfControl c.args.block c.args.node)) c.ready_at.ensures.read.word
    c.loop.hand.me c.ready_at.new.hand.me c.ready_at.ensures.read.me_is in
    record {
      next = tt;
      finite = tt;
      stays = stays-on c.args.site.now c.args.hand.now c.ready_at.new.hand c.serve.new.hand
          (stays-on c.args.site.now c.args.hand.now c.loop.hand c.ready_at.new.hand before.stays (rw (← c.site.view_is) c.ready_at.ensures.stays))
          c.serve.ensures.stays;
      rests = c.serve.ensures.rests;
      looks = looks-on c.args.hand.now.me c.ready_at.new.hand.me c.serve.new.hand.me
          (looks-on c.args.hand.now.me c.loop.hand.me c.ready_at.new.hand.me before.looks looked) (c.serve.ensures.looks c.if-serve.false);
      mail = g.met.M.Mail.on _ _ _ before.mail c.serve.ensures.mail;
      unheard = c.serve.ensures.unheard c.if-serve.false ∙ before.unheard;
    }

pub returns-then-serve : goal.returns-then-serve
returns-then-serve g c =
    let does = g.T.Stepper.does in
    let board = c.args.site.now in
    let name = c.in-Some-ready_at.name in
    let old = c.args.hand.now in
    let round = c.loop.hand in
    let between = c.ready_at.new.hand in
    let new = c.serve.new.hand in
    let read = rw c.site.view_is at c.ready_at.ensures.read in
    let looked = looked-only (index board.frame.layout (OfControl c.args.block c.args.node)) read.word round.me between.me read.me_is in
    let looks = looks-on old.me round.me between.me c.loop.invariant.looks looked in
    record {
      stays = stays-on board old between new (stays-on board old round between c.loop.invariant.stays (rw (← c.site.view_is) c.ready_at.ensures.stays))
          c.serve.ensures.stays;
      rests = c.serve.ensures.rests;
      aside = aside-on old.me between.me new.me looks.aside c.serve.ensures.aside;
      served = subst (λ (from : Resting). ServesNode does board from name old.me new.me) c.resting-from.ensures
          (serves-before does board c.resting-from.result name old.me between.me new.me looks.aside (c.serve.ensures.served c.if-serve.true));
      only = let only = c.serve.ensures.only c.if-serve.true in
          record {
            ready = only.ready;
            leaves = subst (λ (from : Resting). OnlyServes does board from name old.me new.me only.ready) c.resting-from.ensures
                (only-before does board c.resting-from.result name old.me between.me new.me looks only.ready only.leaves);
            heard = subst (λ m. HearsEach g.M.Mail.hears only.ready m c.serve.new.mail) c.loop.invariant.unheard only.heard;
          };
      there = read-there board c.args.on c.args.block c.args.node c.ready_at.result name round between read c.in-Some-ready_at.is;
      unready = tt;
      looks = tt;
      unheard = tt;
      mail = g.met.M.Mail.on _ _ _ c.loop.invariant.mail c.serve.ensures.mail;
    }

pub returns-in-None-ready_at : goal.returns-in-None-ready_at
returns-in-None-ready_at g c =
    let board = c.args.site.now in
    let i = index board.frame.layout (OfControl c.args.block c.args.node) in
    let old = c.args.hand.now in
    let round = c.loop.hand in
    let new = c.ready_at.new.hand in
    let read = rw c.site.view_is at c.ready_at.ensures.read in
    record {
      stays = stays-on board old round new c.loop.invariant.stays (rw (← c.site.view_is) c.ready_at.ensures.stays);
      rests = looked-rests i read.word round.me new.me read.me_is c.loop.invariant.rests;
      aside = aside-on old.me round.me new.me c.loop.invariant.looks.aside (looked-aside i read.word round.me new.me read.me_is);
      served = tt;
      only = tt;
      there = tt;
      unready = since-before i (IsUnready c.args.on) old.me round.me new.me c.loop.invariant.looks.aside
          (read-unready board c.args.on c.args.block c.args.node c.ready_at.result round new read c.in-None-ready_at.is);
      looks = looks-on old.me round.me new.me c.loop.invariant.looks (looked-only i read.word round.me new.me read.me_is);
      mail = c.loop.invariant.mail;
      unheard = c.loop.invariant.unheard;
    }
