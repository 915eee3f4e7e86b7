use Rattle.std.proofs.Common.{◌≡◌, inl, inr, ◌+◌, length, arith, refl, sym, ap, ◌∙◌, subst}
use Rattle.std.proofs.lemmas.Option.{slice_get-get_or}
use Rattle.op_slot.proofs.Staying.{stays-here, stays-on}
use Rattle.exec_recv.specs.Asides.{Aside}
use Rattle.exec_recv.proofs.Asiding.{aside-here, aside-on}
use Rattle.deck_relay.specs.SameDecks.{keeps-here, keeps-on}
use Rattle.run_loop.specs.Serves.{MayHelp, ServesMore, moment}
use Rattle.run_loop.specs.Turns.{AreLeft, MeetsFirst}
use Rattle.run_loop.proofs.Served.{looked-here, more-none, more-one, more-on}
use Rattle.run_loop.proofs.Turned.{left-more}
use Rattle.run_loop.proofs.Meeting.{met-more, named-one}
use Rattle.run_loop.proofs.turning.serve_each.Goals as goal
use Rattle.run_loop.proofs.turning.serve_each.Goals.{then-serve_name, else-serve_name}

pub loop-name-init : goal.loop-name-init
loop-name-init g c =
    record {
      stays = stays-here c.args.site.now c.args.hand.now c.requires.hand;
      rests = c.requires.rests;
      aside = aside-here c.args.hand.now.me;
      served = more-none g.T.Stepper.does c.args.site.now (MayHelp c.args.helps) 0 (moment c.args.hand.now c.args.names.now)
          (moment c.args.hand.now c.args.names.now) (omega arith) (looked-here (moment c.args.hand.now c.args.names.now));
      within = omega arith;
      met = refl;
      none = λ zero k name below. absurd (omega (arith, below));
      deck = keeps-here c.args.names.now.deck;
    }

pub serve_name-requires-clause-first : goal.serve_name-requires-clause-first
serve_name-requires-clause-first g c κs within = ap (λ (a : Aside). a.number) c.loop-name.invariant.aside.same ∙ c.requires.first

pub loop-name-preserved : goal.loop-name-preserved
loop-name-preserved g c =
    let does = g.T.Stepper.does in
    let may = MayHelp c.args.helps in
    let board = c.args.site.now in
    let before = c.loop-name.invariant in
    let old = c.args.hand.now in
    let between = c.loop-name.hand in
    let new = c.serve_name.new.hand in
    let start = moment old c.args.names.now in
    let here = moment between c.loop-name.names in
    let next = moment new c.serve_name.new.names in
    record {
      stays = stays-on board old between new before.stays c.serve_name.ensures.stays;
      rests = c.serve_name.ensures.rests;
      aside = aside-on old.me between.me new.me before.aside c.serve_name.ensures.aside;
      served = elim c.if-serve_name.branch [
        | then-serve_name w ↦
            subst (λ n. ServesMore does board may 0 n start next) (sym w.taken-is)
            (more-on does board may 0 c.loop-name.taken w.one_more-taken.result start here next before.served
            (more-one does board may c.loop-name.taken w.one_more-taken.result here next w.one_more-taken.ensures.one
            (named-one does board c.args.helps _ here next (c.serve_name.ensures.served w.if-serve_name.true))))
        | else-serve_name w ↦
            subst (λ n. ServesMore does board may 0 n start next) (sym w.taken-is)
            (more-on does board may 0 c.loop-name.taken c.loop-name.taken start here next before.served
            (more-none does board may c.loop-name.taken here next (omega arith)
            (record {
              looks = c.serve_name.ensures.looks w.if-serve_name.false;
              unheard = c.serve_name.ensures.unheard w.if-serve_name.false;
            })))
      ];
      within = let below = c.loop-name-test.true in omega (arith, below);
      met = met-more does board c.args.helps c.args.told.now c.loop-name.name-index _ old.me between.me new.me
          (slice_get-get_or c.args.told.now c.loop-name.name-index _ c.loop-name-test.true) before.met
          (elim c.if-serve_name.branch [
            | then-serve_name w ↦
                let all = c.serve_name.ensures.served w.if-serve_name.true in inl (all.ready, all.leaves)
            | else-serve_name w ↦
                inr (record { left = c.serve_name.ensures.left w.if-serve_name.false; looks = c.serve_name.ensures.looks w.if-serve_name.false })
          ]);
      none = λ zero.
          elim c.if-serve_name.branch [
            | then-serve_name w ↦
                let one = w.one_more-taken.ensures.some in
                let is = w.taken-is in
                absurd {A = AreLeft board old.me new.me c.args.helps c.args.told.now (c.loop-name.name-index + 1)}
                (omega (arith, one, is, zero))
            | else-serve_name w ↦
                left-more board c.args.helps old.me between.me new.me c.args.told.now c.loop-name.name-index _
                (slice_get-get_or c.args.told.now c.loop-name.name-index _ c.loop-name-test.true) before.aside c.serve_name.ensures.aside
                (before.none (sym w.taken-is ∙ zero)) (c.serve_name.ensures.left w.if-serve_name.false)
          ];
      deck = keeps-on c.args.names.now.deck c.loop-name.names.deck c.serve_name.new.names.deck before.deck c.serve_name.ensures.deck;
    }

pub returns-clause-none : goal.returns-clause-none
returns-clause-none g c zero k name below =
    let past = c.loop-name-test.false in c.loop-name.invariant.none zero k name (omega (arith, below, past))

pub returns-clause-met : goal.returns-clause-met
returns-clause-met g c =
    let past = c.loop-name-test.false in
    let within = c.loop-name.invariant.within in
    let all : c.loop-name.name-index ≡ length c.args.told.now = omega (arith, past, within) in
    subst
    (λ n.
    MeetsFirst g.T.Stepper.does c.args.site.now c.args.helps c.args.told.now n c.args.hand.now.me c.loop-name.hand.me)
    all c.loop-name.invariant.met
