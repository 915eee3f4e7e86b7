use Rattle.std.proofs.Common.{length, ap, ◌∙◌, subst}
use Rattle.std.specs.declared.alloc.Global.{Global}
use Rattle.std.specs.declared.vec.Vec.{Vec}
use Rattle.life_rules.specs.declared.event.Name.{Name}
use Rattle.deck_relay.specs.SameDecks.{keeps-on}
use Rattle.run_loop.specs.Loops.{told, deck_of}
use Rattle.exec_recv.proofs.Asiding.{aside-here}
use Rattle.run_loop.specs.Serves.{MayHelp, ServesMore, moment}
use Rattle.run_loop.specs.Turns.{AreAllLeft, MeetsFirst}
use Rattle.run_loop.proofs.Meeting.{left-fewer}
use Rattle.exec_recv.specs.Asides.{Aside}
use Rattle.run_loop.proofs.looped.Loop.poll_names.Goals as goal

pub returns-clause-none : goal.returns-clause-none
returns-clause-none g c zero =
    let old = c.args.self.now in
    let new = c.serve_each-taken.new.hand in
    left-fewer c.args.site.now old.helps old.hand.me new.me (told old) c.fetch.new.self.list.items c.fetch.ensures.more
    (subst (AreAllLeft c.args.site.now old.hand.me new.me old.helps)
    (c.deref.ensures.value ∙ ap (λ list. list.items) c.swap.ensures.y_after) (c.serve_each-taken.ensures.none zero))

pub returns-clause-served : goal.returns-clause-served
returns-clause-served g c =
    let does = g.T.Stepper.does in
    let old = c.args.self.now in
    let new = c.serve_each-taken.new in
    let fetched = c.fetch.new.self in
    record {
      fetched = fetched;
      fetches = c.fetch.ensures.fetches;
      serves = subst
          (λ (l : Vec Name Global).
          ServesMore does c.args.site.now (MayHelp old.helps) 0 c.serve_each-taken.result (moment old.hand (record fetched { list = l }))
          (moment new.hand new.names))
          c.swap.ensures.x_after c.serve_each-taken.ensures.served;
    }

pub returns-clause-met : goal.returns-clause-met
returns-clause-met g c =
    let does = g.T.Stepper.does in
    let board = c.args.site.now in
    let old = c.args.self.now in
    let new = c.serve_each-taken.new.hand in
    record {
      names = c.fetch.new.self;
      fetches = c.fetch.ensures.fetches;
      longer = c.fetch.ensures.more;
      meets = record {
        last = new.me;
        each = subst (λ l. MeetsFirst does board old.helps l (length l) old.hand.me new.me)
            (c.deref.ensures.value ∙ ap (λ list. list.items) c.swap.ensures.y_after) c.serve_each-taken.ensures.met;
        after = aside-here new.me;
      };
    }

pub returns-clause-only : goal.returns-clause-only
returns-clause-only g c =
    let old = c.args.self.now in
    let new = c.serve_each-taken.new.hand in
    record {
      names = c.fetch.new.self;
      fetches = c.fetch.ensures.fetches;
      each = subst (λ l. MeetsFirst g.T.Stepper.does c.args.site.now old.helps l (length l) old.hand.me new.me)
          (c.deref.ensures.value ∙ ap (λ list. list.items) c.swap.ensures.y_after) c.serve_each-taken.ensures.met;
    }

pub returns-clause-deck : goal.returns-clause-deck
returns-clause-deck g c =
    keeps-on (deck_of c.args.self.now) c.fetch.new.self.deck c.serve_each-taken.new.names.deck c.fetch.ensures.deck
    c.serve_each-taken.ensures.deck

pub returns-clause-ready : goal.returns-clause-ready
returns-clause-ready g c =
    let ready = c.requires.ready in
    record {
      hand = c.serve_each-taken.ensures.stays.hand;
      first = ap (λ (a : Aside). a.number) c.serve_each-taken.ensures.aside.same ∙ ready.first;
      rests = c.serve_each-taken.ensures.rests;
      next = ready.next;
      delays = ready.delays;
    }
