use Rattle.std.proofs.Common.{arith, refl, ◌∙◌}
use Rattle.life_rules.specs.declared.event.Resting.TheVariants.{Pool}
use Rattle.op_slot.proofs.Staying.{stays-here, stays-on}
use Rattle.exec_recv.proofs.Asiding.{aside-on}
use Rattle.node_walks.proofs.Read.{looks-here, looks-on}
use Rattle.node_walks.proofs.Took.{serves-before}
use Rattle.deck_relay.specs.Desks.{desk-here, desk-on}
use Rattle.steal_pool.proofs.Searched.{blocks-more}
use Rattle.steal_pool.proofs.searching.search.Goals as goal

pub loop-block-init : goal.loop-block-init
loop-block-init g c =
    record {
      stays = stays-here c.args.site.now c.args.hand.now c.requires.hand;
      rests = c.requires.rests;
      looks = looks-here c.args.hand.now.me;
      none = λ not. (not, λ block below. absurd (omega (arith, below)));
      still = λ not. refl;
      desk = desk-here c.args.offers.now.desk;
    }

pub loop-block-preserved : goal.loop-block-preserved
loop-block-preserved g c =
    let board = c.args.site.now in
    let before = c.loop-block.invariant in
    let old = c.args.hand.now in
    let between = c.loop-block.hand in
    let new = c.search_block.new.hand in
    record {
      stays = stays-on board old between new before.stays c.search_block.ensures.stays;
      rests = c.search_block.ensures.rests;
      looks = looks-on old.me between.me new.me before.looks c.in-None.ensures.looks;
      none = λ not.
          let here = c.in-None.ensures.none not in
          let earlier = before.none here.0 in (
            earlier.0,
            blocks-more board old.me between.me new.me c.loop-block.block before.looks.aside c.search_block.ensures.aside earlier.1 here.1,
          );
      still = λ not. c.search_block.ensures.still not ∙ before.still not;
      desk = desk-on c.args.offers.now.desk c.loop-block.offers.desk c.search_block.new.offers.desk before.desk c.search_block.ensures.desk;
    }

pub returns-in-Some : goal.returns-in-Some
returns-in-Some g c =
    let board = c.args.site.now in
    let before = c.loop-block.invariant in
    let old = c.args.hand.now in
    let between = c.loop-block.hand in
    let new = c.search_block.new.hand in
    record {
      stays = stays-on board old between new before.stays c.search_block.ensures.stays;
      rests = c.search_block.ensures.rests;
      aside = aside-on old.me between.me new.me before.looks.aside c.search_block.ensures.aside;
      served = serves-before g.T.Stepper.does board Pool c.in-Some.name old.me between.me new.me before.looks.aside
          c.in-Some.ensures.served;
      none = tt;
      looks = tt;
      still = λ not. c.search_block.ensures.still not ∙ before.still not;
      desk = desk-on c.args.offers.now.desk c.loop-block.offers.desk c.search_block.new.offers.desk before.desk c.search_block.ensures.desk;
    }

pub returns : goal.returns
returns g c =
    let last = c.loop-block.invariant in
    let end = rw c.site.view_is at c.blocks-block-end.ensures.blocks in
    let past = c.loop-block-test.false in
    record {
      stays = last.stays;
      rests = last.rests;
      aside = last.looks.aside;
      served = tt;
      looks = last.looks;
      none = λ not. let all = last.none not in (all.0, λ block within. all.1 block (omega (arith, end, past, within)));
      still = last.still;
      desk = last.desk;
    }
