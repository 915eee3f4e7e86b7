use Rattle.std.proofs.Common.{◌≡◌, List, inl, inr, refl, sym, ap, ◌∙◌, subst}
use Rattle.std.specs.Bool.{OnTrue, OnFalse}
use Rattle.std.specs.Prelude.{Option}
use Rattle.life_rules.specs.declared.event.Name.{Name}
use Rattle.life_rules.specs.declared.event.Resting.TheVariants.{Parked}
use Rattle.table_words.specs.Layouts.{OfControl, index}
use Rattle.table_steps.specs.Steps.{control_index}
use Rattle.table_steps.specs.Views.{IsPlaceIn}
use Rattle.op_slot.proofs.Staying.{stays-here, stays-on}
use Rattle.exec_recv.specs.Sites.{plan_at}
use Rattle.exec_recv.proofs.Since.{moved-before}
use Rattle.node_walks.specs.Serving.{TakesWord}
use Rattle.node_walks.proofs.Read.{looked-rests, looks-here, looks-on}
use Rattle.serve_ahead.specs.Takes.{MissesAhead}
use Rattle.spawn_future.specs.declared.future.Future.{Future}
use Rattle.spawn_future.specs.Counts.{BeginsAndEnds}
use Rattle.spawn_future.specs.Serves.{ServesAhead}
use Rattle.spawn_future.specs.Turns.{TakesParked}
use Rattle.spawn_future.proofs.Counted.{counts-same, counts-on}
use Rattle.spawn_future.proofs.Served.{keeping-on}
use Rattle.spawn_future.proofs.Turned.{ahead-in, parked-looks, parked-none, parked-name, parked-place, parked-ahead, unparked-before, node-within}
use Rattle.spawn_future.proofs.futures.Futures.serve_place.Goals as goal

pub loop-init : goal.loop-init
loop-init g c = record {
  next = tt;
  finite = tt;
  stays = stays-here c.args.site.now c.args.hand.now c.requires.keeping.hand_of;
  keeping = c.requires.keeping;
  slots = refl;
  looks = looks-here c.args.hand.now.me;
  mail = g.met.M.Mail.none c.args.mail.now;
}

pub parked_at-requires-clause-table : goal.parked_at-requires-clause-table
parked_at-requires-clause-table g c κs = (rw (← c.site.view_is) at c.loop.invariant.keeping).hand_of

pub parked_at-requires-clause-node : goal.parked_at-requires-clause-node
parked_at-requires-clause-node g c κs =
    rw c.site.view_is (node-within c.args.site.now c.args.node c.requires.site.over c.requires.node)

pub ahead_at-requires : goal.ahead_at-requires
ahead_at-requires g c =
    let read = rw c.site.view_is at c.parked_at.ensures.read in
    rw c.site.invariant
    (rw c.site.view_is
    (parked-ahead c.args.site.now c.args.block c.args.node c.parked_at.result c.loop.hand c.parked_at.new.hand read (plan_at c.args.site.now)
    c.in-Some-parked_at.name c.in-Some-parked_at.is c.requires.node))

pub serve-requires-clause-keeping : goal.serve-requires-clause-keeping
serve-requires-clause-keeping g c κs within =
    let board = c.args.site.now in
    let read = rw c.site.view_is at c.parked_at.ensures.read in
    let round = c.loop.hand in
    let new = c.parked_at.new.hand in
    keeping-on board c.loop.self round new c.loop.invariant.keeping (rw c.site.view_is at c.parked_at.ensures.stays).hand
    (looked-rests (index board.frame.layout (OfControl c.args.block c.args.node)) read.word round.me new.me read.me_is
    c.loop.invariant.keeping.rests)
    (parked-looks board c.args.block c.args.node c.parked_at.result round new read).aside

pub serve-requires-clause-node : goal.serve-requires-clause-node
serve-requires-clause-node g c κs within =
    ahead-in c.args.site.now c.in-Some-parked_at.name c.ahead_at.result (rw c.site.view_is at (rw c.site.invariant at c.ahead_at.ensures))

pub serve-requires-clause-place : goal.serve-requires-clause-place
serve-requires-clause-place g c κs within =
    let board = c.args.site.now in
    let read = rw c.site.view_is at c.parked_at.ensures.read in
    subst (λ (x : Name). IsPlaceIn board x) (sym c.ahead_at.ensures.name_is)
    (parked-place board c.args.block c.args.node c.parked_at.result c.loop.hand c.parked_at.new.hand read
    c.in-Some-parked_at.name c.in-Some-parked_at.is c.requires.block (node-within board c.args.node c.requires.site.over c.requires.node))

pub loop-preserved : goal.loop-preserved
loop-preserved g c =
    let board = c.args.site.now in
    let before = c.loop.invariant in
    let old = c.args.hand.now in
    let round = c.loop.hand in
    let between = c.parked_at.new.hand in
    let new = c.serve.new.hand in
    let read = rw c.site.view_is at c.parked_at.ensures.read in
    let looked = parked-looks board c.args.block c.args.node c.parked_at.result round between read in
    let slots = subst (λ b. OnFalse b (c.serve.new.self ≡ c.loop.self)) c.if-serve.false c.serve.ensures.slots in
    let missed = subst (λ b. OnFalse b (MissesAhead board c.ahead_at.result between.me new.me)) c.if-serve.false c.serve.ensures.missed in
    record {
      next = tt;
      finite = tt;
      stays = stays-on board old between new (stays-on board old round between before.stays (rw c.site.view_is at c.parked_at.ensures.stays))
          c.serve.ensures.stays;
      keeping = c.serve.ensures.keeping;
      slots = slots ∙ before.slots;
      looks = looks-on old.me between.me new.me (looks-on old.me round.me between.me before.looks looked) missed.looks;
      mail = g.met.M.Mail.on _ _ _ before.mail c.serve.ensures.mail;
    }

pub returns-then-serve : goal.returns-then-serve
returns-then-serve g c =
    let board = c.args.site.now in
    let before = c.loop.invariant in
    let first = c.args.self.now in
    let later = c.serve.new.self in
    let old = c.args.hand.now in
    let round = c.loop.hand in
    let between = c.parked_at.new.hand in
    let new = c.serve.new.hand in
    let read = rw c.site.view_is at c.parked_at.ensures.read in
    let looked = parked-looks board c.args.block c.args.node c.parked_at.result round between read in
    let looks = looks-on old.me round.me between.me before.looks looked in
    let at = c.ahead_at.result in
    let served = subst (λ (l : List (Option Future)). ServesAhead board at l later between new) before.slots
    (subst (λ b. OnTrue b (ServesAhead board at c.loop.self later between new)) c.if-serve.true c.serve.ensures.served) in
    let leaves = subst (λ (l : List (Option Future)). BeginsAndEnds board l later between.me new.me) before.slots c.serve.ensures.leaves in
    let there = c.ahead_at.ensures.name_is
    ∙ sym (parked-name board c.args.block c.args.node c.parked_at.result round between read c.in-Some-parked_at.name c.in-Some-parked_at.is) in
    let taken = subst (λ b. OnTrue b (TakesParked board at.name between.me new.me)) c.if-serve.true c.serve.ensures.taken in
    record {
      keeping = c.serve.ensures.keeping;
      stays = stays-on board old between new (stays-on board old round between before.stays (rw c.site.view_is at c.parked_at.ensures.stays))
          c.serve.ensures.stays;
      mail = g.met.M.Mail.on _ _ _ before.mail c.serve.ensures.mail;
      leaves = counts-on board first first later old.me between.me new.me (counts-same board first old.me between.me looks.aside) leaves;
      served = record {
        at = at;
        serves = record {
          ahead = ahead-in board c.in-Some-parked_at.name at (rw c.site.view_is at (rw c.site.invariant at c.ahead_at.ensures));
          found = between;
          looks = looks;
          slots = later;
          served = new;
          serves = served;
          others = (refl, looks-here new.me);
        };
      };
      passed = tt;
      visited = inl (record {
        name = at.name;
        there = (ap (λ (x : Name). x.block) there, ap (λ (x : Name). x.node) there);
        taken = moved-before (control_index board at.name) (TakesWord Parked at.name) old.me between.me new.me looks.aside taken;
      });
    }

pub returns-in-None-parked_at : goal.returns-in-None-parked_at
returns-in-None-parked_at g c =
    let board = c.args.site.now in
    let before = c.loop.invariant in
    let first = c.args.self.now in
    let old = c.args.hand.now in
    let round = c.loop.hand in
    let new = c.parked_at.new.hand in
    let read = rw c.site.view_is at c.parked_at.ensures.read in
    let stays = rw c.site.view_is at c.parked_at.ensures.stays in
    let looked = parked-looks board c.args.block c.args.node c.parked_at.result round new read in
    let looks = looks-on old.me round.me new.me before.looks looked in
    let unparked = unparked-before board (plan_at board) c.args.block c.args.node old.me round.me new.me before.looks.aside
    (parked-none board c.args.block c.args.node c.parked_at.result round new read c.in-None-parked_at.is) in
    record {
      keeping = keeping-on board c.loop.self round new before.keeping stays.hand
          (looked-rests (index board.frame.layout (OfControl c.args.block c.args.node)) read.word round.me new.me read.me_is before.keeping.rests)
          looked.aside;
      stays = stays-on board old round new before.stays stays;
      mail = before.mail;
      leaves = subst (λ (l : List (Option Future)). BeginsAndEnds board first l old.me new.me) (sym before.slots)
          (counts-same board first old.me new.me looks.aside);
      served = tt;
      passed = record { slots = before.slots; looks = looks; unparked = unparked };
      visited = inr unparked;
    }
