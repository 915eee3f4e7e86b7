use Rattle.std.proofs.Common.{arith, ap, ◌∙◌}
use Rattle.op_slot.proofs.Staying.{stays-here, stays-on}
use Rattle.exec_recv.specs.Asides.{Aside}
use Rattle.exec_recv.proofs.Asiding.{aside-here, aside-on}
use Rattle.deck_relay.specs.SameDecks.{keeps-here, keeps-on}
use Rattle.run_loop.specs.Serves.{MayHelp, moment}
use Rattle.run_loop.proofs.Served.{looked-here, more-none, more-on}
use Rattle.run_loop.proofs.Turned.{blocks-more, block-met}
use Rattle.run_loop.proofs.scanning.scan_blocks.Goals as goal

pub loop-block-init : goal.loop-block-init
loop-block-init g c =
    record {
      stays = stays-here c.args.site.now c.args.hand.now c.requires.hand;
      rests = c.requires.rests;
      aside = aside-here c.args.hand.now.me;
      served = more-none g.T.Stepper.does c.args.site.now (MayHelp c.args.helps) 0 (moment c.args.hand.now c.args.names.now)
          (moment c.args.hand.now c.args.names.now) (omega arith) (looked-here (moment c.args.hand.now c.args.names.now));
      none = λ zero block below. absurd (omega (arith, below));
      met = λ block below. absurd (omega (arith, below));
      deck = keeps-here c.args.names.now.deck;
    }

pub scan_block-taken-requires-clause-first : goal.scan_block-taken-requires-clause-first
scan_block-taken-requires-clause-first g c κs within = ap (λ (a : Aside). a.number) c.loop-block.invariant.aside.same ∙ c.requires.first

pub loop-block-preserved : goal.loop-block-preserved
loop-block-preserved g c =
    let board = c.args.site.now in
    let before = c.loop-block.invariant in
    let old = c.args.hand.now in
    let between = c.loop-block.hand in
    let new = c.scan_block-taken.new.hand in
    record {
      stays = stays-on board old between new before.stays c.scan_block-taken.ensures.stays;
      rests = c.scan_block-taken.ensures.rests;
      aside = aside-on old.me between.me new.me before.aside c.scan_block-taken.ensures.aside;
      served = more-on g.T.Stepper.does board (MayHelp c.args.helps) 0 c.loop-block.taken c.scan_block-taken.result
          (moment old c.args.names.now) (moment between c.loop-block.names) (moment new c.scan_block-taken.new.names) before.served
          c.scan_block-taken.ensures.served;
      none = λ zero.
          let here = c.scan_block-taken.ensures.none zero in
          blocks-more board c.args.helps c.loop-block.block old.me between.me new.me before.aside c.scan_block-taken.ensures.aside
          (before.none here.0) here.1;
      met = block-met board c.args.helps old.me between.me new.me c.loop-block.block before.aside c.scan_block-taken.ensures.aside before.met
          c.scan_block-taken.ensures.met;
      deck = keeps-on c.args.names.now.deck c.loop-block.names.deck c.scan_block-taken.new.names.deck before.deck c.scan_block-taken.ensures.deck;
    }

pub returns-clause-none : goal.returns-clause-none
returns-clause-none g c zero block within =
    let blocks = rw c.site.view_is at c.blocks-block-end.ensures.blocks in
    let end = c.loop-block-test.false in
    c.loop-block.invariant.none zero block (omega (arith, blocks, end, within))

pub returns-clause-met : goal.returns-clause-met
returns-clause-met g c block within =
    let blocks = rw c.site.view_is at c.blocks-block-end.ensures.blocks in
    let end = c.loop-block-test.false in
    c.loop-block.invariant.met block (omega (arith, blocks, end, within))
