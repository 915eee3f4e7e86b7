use Rattle.std.proofs.Common.{refl, subst}
use Rattle.std.specs.Prelude.{Option}
use Rattle.life_rules.specs.Views.{beside}
use Rattle.life_rules.specs.declared.event.Name.{Name}
use Rattle.op_slot.proofs.Staying.{stays-here, stays-on}
use Rattle.exec_recv.proofs.Asiding.{aside-here, aside-on}
use Rattle.exec_recv.proofs.Stepped.{did-so}
use Rattle.node_walks.specs.Resting.{GoesOn}
use Rattle.node_walks.specs.Walks.{LeadsTo}
use Rattle.node_walks.proofs.Going.{goes-to}
use Rattle.node_walks.proofs.Walked.{leads-first, leads-last, leads-on}
use Rattle.node_walks.proofs.walking.go_after.Goals as goal

pub loop-init : goal.loop-init
loop-init g c = record {
  next = tt;
  finite = tt;
  stays = stays-here c.args.site.now c.args.hand.now c.requires.hand;
  after = c.requires.after;
  aside = aside-here c.args.hand.now.me;
  walks = leads-first g.M.Mail.hears g.T.Stepper.does c.args.site.now c.args.name c.args.next c.args.hand.now.me c.args.mail.now;
  mail = g.met.M.Mail.none c.args.mail.now;
}

pub loop-preserved-in-Go : goal.loop-preserved-in-Go
loop-preserved-in-Go g c =
    let before = c.loop.invariant in
    let step = c.step-ended in
    let board = c.args.site.now in
    let m = c.loop.hand.me in
    let going = beside c.loop.last c.in-Go.node in
    let stepped = step.ensures.steps.stepped in
    let goes = rw c.in-Go.is at before.after.stepped.goes in
    record {
      next = tt;
      finite = tt;
      stays = stays-on board c.args.hand.now c.loop.hand step.new.hand before.stays step.ensures.steps.stays;
      after = record {
        before = m;
        can = goes-to _ c.requires.site.over.is_tree _ _ _ _ before.after.can before.after.stepped going goes;
        stepped = stepped;
      };
      aside = aside-on c.args.hand.now.me m step.new.hand.me before.aside stepped.aside;
      walks = leads-on g.M.Mail.hears g.T.Stepper.does board c.args.name c.args.next c.args.hand.now.me c.args.mail.now c.loop.last c.loop.ended m
          c.loop.mail before.walks m c.loop.mail (rw c.in-Go.is refl) going step.result step.new.hand.me
          (rw c.in-Go.is (record { going_is = refl; same = refl }))
          (did-so _ board going step.result c.loop.hand step.new.hand step.ensures.does) stepped;
      mail = before.mail;
    }

pub loop-preserved : goal.loop-preserved
loop-preserved g c =
    let before = c.loop.invariant in
    let found = c.find_next in
    let step = c.step-ended-in-Some-find_next in
    let board = c.args.site.now in
    let m = found.new.hand.me in
    let m1 = step.new.hand.me in
    let stepped = step.ensures.steps.stepped in
    record {
      next = tt;
      finite = tt;
      stays = stays-on board c.args.hand.now found.new.hand step.new.hand
          (stays-on board c.args.hand.now c.loop.hand found.new.hand before.stays found.ensures.stays) step.ensures.steps.stays;
      after = record { before = m; can = subst (λ (o : Option Name). GoesOn board o m) c.in-Some-find_next.is found.ensures.next; stepped = stepped };
      aside = aside-on c.args.hand.now.me m m1 (aside-on c.args.hand.now.me c.loop.hand.me m before.aside found.ensures.aside) stepped.aside;
      walks = leads-on g.M.Mail.hears g.T.Stepper.does board c.args.name c.args.next c.args.hand.now.me c.args.mail.now c.loop.last c.loop.ended
          c.loop.hand.me c.loop.mail before.walks m found.new.mail found.ensures.heard c.in-Some-find_next.going step.result m1
          (subst (λ (o : Option Name). LeadsTo board c.loop.last c.loop.ended o c.loop.hand.me m) c.in-Some-find_next.is found.ensures.follows)
          (did-so _ board c.in-Some-find_next.going step.result found.new.hand step.new.hand step.ensures.does) stepped;
      mail = g.met.M.Mail.on _ _ _ before.mail found.ensures.mail;
    }

pub returns-in-None-find_next-clause-walks : goal.returns-in-None-find_next-clause-walks
returns-in-None-find_next-clause-walks g c =
    let found = c.find_next in
    let m = found.new.hand.me in
    leads-last g.M.Mail.hears g.T.Stepper.does c.args.site.now c.args.name c.args.next c.args.hand.now.me c.args.mail.now c.loop.last c.loop.ended
    c.loop.hand.me c.loop.mail c.loop.invariant.walks m found.new.mail found.ensures.heard
    (subst (λ (o : Option Name). LeadsTo c.args.site.now c.loop.last c.loop.ended o c.loop.hand.me m) c.in-None-find_next.is found.ensures.follows)

pub step-ended-requires : goal.step-ended-requires
step-ended-requires g c =
    let before = c.loop.invariant in
    let goes = rw c.in-Go.is at before.after.stepped.goes in
    let can = goes-to c.args.site.now c.requires.site.over.is_tree c.loop.last before.after.before c.loop.hand.me c.loop.ended before.after.can
    before.after.stepped (beside c.loop.last c.in-Go.node) goes in
    record { may = record { site = c.requires.site; of = before.stays.hand; can = can.can; starts = can.starts } }

pub find_next-requires-clause-after : goal.find_next-requires-clause-after
find_next-requires-clause-after g c κs within = c.loop.invariant.after

pub find_next-requires-clause-hand : goal.find_next-requires-clause-hand
find_next-requires-clause-hand g c κs within = c.loop.invariant.stays.hand

pub find_next-requires-clause-site : goal.find_next-requires-clause-site
find_next-requires-clause-site g c κs within = c.requires.site

pub find_next-requires-clause-sync : goal.find_next-requires-clause-sync
find_next-requires-clause-sync g c κs within = c.requires.sync

pub step-ended-requires-in-Some-find_next : goal.step-ended-requires-in-Some-find_next
step-ended-requires-in-Some-find_next g c =
    let found = c.find_next in
    let goes = subst (λ (o : Option Name). GoesOn c.args.site.now o found.new.hand.me) c.in-Some-find_next.is found.ensures.next in
    record { may = record { site = c.requires.site; of = found.ensures.stays.hand; can = goes.can; starts = goes.starts } }

pub returns-in-None-find_next-clause-stays : goal.returns-in-None-find_next-clause-stays
returns-in-None-find_next-clause-stays g c =
    stays-on c.args.site.now c.args.hand.now c.loop.hand c.find_next.new.hand c.loop.invariant.stays c.find_next.ensures.stays

pub returns-in-None-find_next-clause-rests : goal.returns-in-None-find_next-clause-rests
returns-in-None-find_next-clause-rests g c =
    subst (λ (o : Option Name). GoesOn c.args.site.now o c.find_next.new.hand.me) c.in-None-find_next.is c.find_next.ensures.next

pub returns-in-None-find_next-clause-aside : goal.returns-in-None-find_next-clause-aside
returns-in-None-find_next-clause-aside g c =
    aside-on c.args.hand.now.me c.loop.hand.me c.find_next.new.hand.me c.loop.invariant.aside c.find_next.ensures.aside

pub returns-in-None-find_next-clause-mail : goal.returns-in-None-find_next-clause-mail
returns-in-None-find_next-clause-mail g c =
    g.met.M.Mail.on c.args.mail.now c.loop.mail c.find_next.new.mail c.loop.invariant.mail c.find_next.ensures.mail
