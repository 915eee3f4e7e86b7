use Rattle.std.proofs.Common.{◌⊎◌, inl, inr, arith, ap, ◌∙◌, subst}
use Rattle.exec_recv.specs.Asides.{Aside}
use Rattle.exec_recv.proofs.Asiding.{aside-on}
use Rattle.timer_wheel.specs.Delays.{DelayList}
use Rattle.deck_relay.specs.SameDecks.{keeps-on}
use Rattle.run_loop.specs.Delayed.{MayTakeDue, PassesTurn}
use Rattle.run_loop.specs.Loops.{told, deck_of}
use Rattle.run_loop.specs.Serves.{IsOpen, MayHelp, ServesMore, Taking, moment}
use Rattle.run_loop.proofs.Due.{due-before, passes-before}
use Rattle.run_loop.proofs.Meeting.{met-later}
use Rattle.run_loop.proofs.Served.{more-on, more-by}
use Rattle.run_loop.proofs.Turned.{left-later}
use Rattle.run_loop.proofs.looped.Loop.poll.Goals as goal

pub returns-clause-ready : goal.returns-clause-ready
returns-clause-ready g c =
    let ready = c.poll_names-taken.ensures.ready in
    let places = c.serve_delays.ensures.places in
    record {
      hand = c.serve_delays.ensures.stays.hand;
      first = ap (λ (a : Aside). a.number) c.serve_delays.ensures.aside.same ∙ ready.first;
      rests = c.serve_delays.ensures.rests;
      next = ready.next;
      delays = record { room = λ some. let room = ready.delays.room some in omega (arith, places, room); are = ready.delays.are };
    }

pub returns-clause-aside : goal.returns-clause-aside
returns-clause-aside g c =
    aside-on c.args.self.now.hand.me c.poll_names-taken.new.self.hand.me c.serve_delays.new.hand.me c.poll_names-taken.ensures.aside
    c.serve_delays.ensures.aside

pub returns-clause-served : goal.returns-clause-served
returns-clause-served g c =
    let does = g.T.Stepper.does in
    let board = c.args.site.now in
    let old = c.args.self.now in
    let between = c.poll_names-taken.new.self in
    let new = c.serve_delays.new.hand.me in
    let turn = c.serve_delays.new.delays.turn in
    let may : Taking = λ from name. IsOpen old.helps from ⊎ MayTakeDue board old.hand.me new turn old.delays from name in
    let first = c.poll_names-taken.ensures.served in
    let start = moment old.hand (record first.fetched { list = old.served }) in
    let here = moment between.hand between.names in
    let end = moment c.serve_delays.new.hand c.serve_delays.new.names in
    record {
      fetched = first.fetched;
      fetches = first.fetches;
      serves = more-on does board may 0 c.poll_names-taken.result c.serve_delays.result start here end
          (more-by does board (MayHelp old.helps) may (λ from name ready. inl ready) 0 c.poll_names-taken.result start here first.serves)
          (more-by does board (MayTakeDue board between.hand.me new turn between.delays) may
          (λ from name due.
          inr
          (subst (λ (d : DelayList). MayTakeDue board old.hand.me new turn d from name) c.poll_names-taken.ensures.delays.delays
          (due.0, due-before board old.hand.me between.hand.me new turn between.delays name c.poll_names-taken.ensures.aside due.1)))
          c.poll_names-taken.result c.serve_delays.result here end c.serve_delays.ensures.served);
    }

pub returns-clause-met : goal.returns-clause-met
returns-clause-met g c =
    met-later g.T.Stepper.does c.args.site.now c.args.self.now c.poll_names-taken.new.self
    (record c.poll_names-taken.new.self {
      hand = c.serve_delays.new.hand;
      names = c.serve_delays.new.names;
      delays = c.serve_delays.new.delays;
    })
    c.poll_names-taken.ensures.met c.serve_delays.ensures.aside

pub returns-clause-only : goal.returns-clause-only
returns-clause-only g c =
    let does = g.T.Stepper.does in
    let board = c.args.site.now in
    let between = c.poll_names-taken.new.self in
    let new = c.serve_delays.new.hand.me in
    record {
      last = between;
      meets = c.poll_names-taken.ensures.only;
      named = c.poll_names-taken.result;
      taken = c.poll_names-taken.ensures.served;
      due = subst
          (λ (d : DelayList).
          ServesMore does board (MayTakeDue board between.hand.me new c.serve_delays.new.delays.turn d) c.poll_names-taken.result
          c.serve_delays.result (moment between.hand between.names) (moment c.serve_delays.new.hand c.serve_delays.new.names))
          c.poll_names-taken.ensures.delays.delays c.serve_delays.ensures.served;
    }

pub returns-clause-none : goal.returns-clause-none
returns-clause-none g c zero =
    let old = c.args.self.now in
    let more = c.serve_delays.ensures.more in
    left-later c.args.site.now old.helps old.hand.me c.poll_names-taken.new.self.hand.me c.serve_delays.new.hand.me (told old)
    (c.poll_names-taken.ensures.none (omega (arith, more, zero))) c.serve_delays.ensures.aside

pub returns-clause-turn : goal.returns-clause-turn
returns-clause-turn g c =
    let board = c.args.site.now in
    let old = c.args.self.now in
    let between = c.poll_names-taken.new.self in
    let new = c.serve_delays.new.hand.me in
    subst (λ (d : DelayList). PassesTurn board old.hand.me new c.serve_delays.result d c.serve_delays.new.delays)
    c.poll_names-taken.ensures.delays.delays
    (passes-before board c.serve_delays.result old.hand.me between.hand.me new between.delays c.serve_delays.new.delays
    c.poll_names-taken.ensures.aside c.serve_delays.ensures.turn c.serve_delays.ensures.aside)

pub returns-clause-deck : goal.returns-clause-deck
returns-clause-deck g c =
    keeps-on (deck_of c.args.self.now) (deck_of c.poll_names-taken.new.self) c.serve_delays.new.names.deck c.poll_names-taken.ensures.deck
    c.serve_delays.ensures.deck

pub serve_delays-requires-clause-places : goal.serve_delays-requires-clause-places
serve_delays-requires-clause-places g c κs within =
    rw c.deref.ensures.value c.poll_names-taken.ensures.ready.delays.room

pub serve_delays-requires-clause-nodes : goal.serve_delays-requires-clause-nodes
serve_delays-requires-clause-nodes g c κs within =
    rw c.deref.ensures.value c.poll_names-taken.ensures.ready.delays.are
