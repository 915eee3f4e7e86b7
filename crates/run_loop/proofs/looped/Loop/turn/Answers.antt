use Rattle.std.proofs.Common.{◌≡◌, ◌⊎◌, inl, inr, arith, refl, subst, ap, ◌∙◌}
use Rattle.exec_recv.proofs.Asiding.{aside-on}
use Rattle.deck_relay.specs.SameDecks.{keeps-on}
use Rattle.run_loop.specs.Delayed.{MayTakeDue, MayTakeIn}
use Rattle.run_loop.specs.Loops.{deck_of}
use Rattle.run_loop.specs.Serves.{IsOpen, MayHelp, ServesMore, Taking, moment}
use Rattle.run_loop.specs.Turns.{AreMetBelow, TakesNothing}
use Rattle.run_loop.proofs.Served.{more-by, more-first}
use Rattle.run_loop.proofs.Turned.{nothing-later}
use Rattle.run_loop.proofs.Due.{due-after, passes-after}
use Rattle.run_loop.proofs.Meeting.{met-later}
use Rattle.exec_recv.specs.Asides.{Aside}
use Rattle.run_loop.proofs.looped.Loop.turn.Goals as goal

pub returns-clause-aside : goal.returns-clause-aside
returns-clause-aside g c =
    aside-on c.args.self.now.hand.me c.poll-taken.new.self.hand.me c.scan_blocks.new.hand.me c.poll-taken.ensures.aside
    c.scan_blocks.ensures.aside

pub returns-clause-none : goal.returns-clause-none
returns-clause-none g c zero =
    let board = c.args.site.now in
    let old = c.args.self.now in
    let between = c.poll-taken.new.self in
    let new = c.scan_blocks.new.hand in
    nothing-later board old.helps old.hand.me between.hand.me new.me c.poll-taken.ensures.aside
    (subst (TakesNothing board between.hand.me new.me) c.poll-taken.ensures.counts.helps (c.scan_blocks.ensures.none zero))

pub returns-clause-served : goal.returns-clause-served
returns-clause-served g c =
    let does = g.T.Stepper.does in
    let board = c.args.site.now in
    let old = c.args.self.now in
    let between = c.poll-taken.new.self in
    let new = c.scan_blocks.new.hand.me in
    let turn = between.delays.turn in
    let may : Taking = λ from name. IsOpen old.helps from ⊎ MayTakeDue board old.hand.me new turn old.delays from name in
    let none = c.if-taken-gt0.false in
    let zero : c.poll-taken.result ≡ 0 = omega (arith, none) in
    let poll = c.poll-taken.ensures.served in
    let start = moment old.hand (record poll.fetched { list = old.served }) in
    let here = moment between.hand between.names in
    let end = moment c.scan_blocks.new.hand c.scan_blocks.new.names in
    let first : ServesMore does board may 0 c.poll-taken.result start here =
    more-by does board (MayTakeIn board old between) may
    (λ from name is. elim is [
      | inl ready ↦ inl ready
      | inr due ↦ inr (due.0, due-after board old.hand.me between.hand.me new turn old.delays name due.1 c.scan_blocks.ensures.aside)
    ])
    0 c.poll-taken.result start here poll.serves
    in
    record {
      fetched = poll.fetched;
      fetches = poll.fetches;
      serves = more-first does board may c.scan_blocks.result start here end
          (subst (λ n. ServesMore does board may 0 n start here) zero first)
          (more-by does board (MayHelp between.helps) may
          (λ from name ready. inl (subst (λ h. IsOpen h from) c.poll-taken.ensures.counts.helps ready)) 0 c.scan_blocks.result here end
          c.scan_blocks.ensures.served);
    }

pub returns-then-taken-gt0-clause-only : goal.returns-then-taken-gt0-clause-only
returns-then-taken-gt0-clause-only g c =
    let some = c.if-taken-gt0.true in
    record {
      polled = c.poll-taken.result;
      last = c.poll-taken.new.self;
      polls = c.poll-taken.ensures.only;
      stops = λ _. (refl, refl);
      serves = λ none. absurd (omega (arith, some, none));
      scans = λ none. absurd (omega (arith, some, none));
    }

pub returns-clause-only : goal.returns-clause-only
returns-clause-only g c =
    let board = c.args.site.now in
    let old = c.args.self.now in
    let between = c.poll-taken.new.self in
    let new = c.scan_blocks.new.hand.me in
    let none = c.if-taken-gt0.false in
    record {
      polled = c.poll-taken.result;
      last = between;
      polls = c.poll-taken.ensures.only;
      stops = λ some. absurd (omega (arith, none, some));
      serves = λ _.
          subst
          (λ h.
          ServesMore g.T.Stepper.does board (MayHelp h) 0 c.scan_blocks.result (moment between.hand between.names)
          (moment c.scan_blocks.new.hand c.scan_blocks.new.names))
          c.poll-taken.ensures.counts.helps c.scan_blocks.ensures.served;
      scans = λ _.
          subst (λ h. AreMetBelow board between.hand.me new h board.frame.layout.blocks) c.poll-taken.ensures.counts.helps c.scan_blocks.ensures.met;
    }

pub returns-clause-met : goal.returns-clause-met
returns-clause-met g c =
    met-later g.T.Stepper.does c.args.site.now c.args.self.now c.poll-taken.new.self
    (record c.poll-taken.new.self { hand = c.scan_blocks.new.hand; names = c.scan_blocks.new.names }) c.poll-taken.ensures.met
    c.scan_blocks.ensures.aside

pub returns-clause-turn : goal.returns-clause-turn
returns-clause-turn g c =
    let none = c.if-taken-gt0.false in
    passes-after c.args.site.now c.poll-taken.result c.scan_blocks.result c.args.self.now.hand.me c.poll-taken.new.self.hand.me
    c.scan_blocks.new.hand.me c.args.self.now.delays c.poll-taken.new.self.delays (omega (arith, none)) c.poll-taken.ensures.turn
    c.scan_blocks.ensures.aside

pub returns-clause-deck : goal.returns-clause-deck
returns-clause-deck g c =
    keeps-on (deck_of c.args.self.now) (deck_of c.poll-taken.new.self) c.scan_blocks.new.names.deck c.poll-taken.ensures.deck
    c.scan_blocks.ensures.deck

pub returns-clause-ready : goal.returns-clause-ready
returns-clause-ready g c =
    let ready = c.poll-taken.ensures.ready in
    record {
      hand = c.scan_blocks.ensures.stays.hand;
      first = ap (λ (a : Aside). a.number) c.scan_blocks.ensures.aside.same ∙ ready.first;
      rests = c.scan_blocks.ensures.rests;
      next = ready.next;
      delays = ready.delays;
    }

pub returns-then-taken-gt0-clause-none : goal.returns-then-taken-gt0-clause-none
returns-then-taken-gt0-clause-none g c zero =
    let some = c.if-taken-gt0.true in
    absurd (omega (arith, some, zero))
