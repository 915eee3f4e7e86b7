use Rattle.std.proofs.Common.{eqb-true, sym, ◌∙◌, arith}
use Rattle.op_slot.proofs.Staying.{stays-here, stays-on}
use Rattle.node_walks.proofs.Read.{looks-here, looks-on}
use Rattle.run_loop.proofs.Looking.{below-none, below-empty, below-more}
use Rattle.run_loop.proofs.delaying.look_round.Goals as goal

pub loop-block-init : goal.loop-block-init
loop-block-init c =
    record {
      stays = stays-here c.args.table.now c.args.hand.now c.requires.hand;
      rests = c.requires.rests;
      only = looks-here c.args.hand.now.me;
      looks = below-none c.args.table.now c.requires.over c.args.nodes.now c.requires.nodes c.args.hand.now.me c.args.delays.now;
    }

pub loop-block-preserved : goal.loop-block-preserved
loop-block-preserved c =
    let board = c.args.table.now in
    let before = c.loop-block.invariant in
    let old = c.args.hand.now in
    let between = c.loop-block.hand in
    let new = c.look_through.new.hand in
    record {
      stays = stays-on board old between new before.stays c.look_through.ensures.stays;
      rests = c.look_through.ensures.rests;
      only = looks-on old.me between.me new.me before.only c.look_through.ensures.only;
      looks = below-more board c.requires.over c.args.nodes.now c.requires.nodes c.loop-block.block old.me between.me new.me c.args.delays.now
          c.loop-block.delays c.look_through.new.delays before.looks c.look_through.ensures.looks before.only.aside c.look_through.ensures.only.aside;
    }

pub returns-then-is_empty : goal.returns-then-is_empty
returns-then-is_empty c =
    let old = c.args.hand.now in
    record {
      stays = stays-here c.args.table.now old c.requires.hand;
      rests = c.requires.rests;
      only = looks-here old.me;
      looks = below-empty c.args.table.now c.requires.over c.args.nodes.now c.requires.nodes c.args.table.now.frame.layout.blocks old.me
          c.args.delays.now (eqb-true _ 0 (sym c.is_empty.ensures ∙ c.if-is_empty.true));
    }

pub look_through-requires-clause-places : goal.look_through-requires-clause-places
look_through-requires-clause-places c some =
    let places = c.loop-block.invariant.looks.places_are in
    let room = c.requires.places some in
    omega (arith, places, room)
