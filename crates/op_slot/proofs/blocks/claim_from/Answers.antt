use Rattle.std.proofs.Common.{◌<◌, arith, refl, ap, ◌∙◌}
use Rattle.op_slot.specs.Searches.{block_round}
use Rattle.op_slot.proofs.Staying.{stays-here}
use Rattle.op_slot.proofs.Searching.{found-round}
use Rattle.op_slot.proofs.blocks.claim_from.Goals as goal

pub loop-step-init : goal.loop-step-init
loop-step-init g c = record {
  stays = stays-here c.args.table.now c.args.hand.now c.requires.table;
  missed = refl;
}

pub returns-in-Some-clause-claimed : goal.returns-in-Some-clause-claimed
returns-in-Some-clause-claimed g c =
    let board = c.args.table.now in
    let blocks = board.frame.layout.blocks in
    let step = c.loop-step.step in
    let few : step < blocks = omega arith in
    found-round g.row.P.Denot g.row.P-Entry.Denot board
    (record {
      from = c.args.from;
      step = step;
      block = c.block_round-block.result;
      at = ◌∙◌ {b = block_round c.blocks-blocks.result c.args.from step} c.block_round-block.ensures.round
          (ap (λ n. block_round n c.args.from step) c.blocks-blocks.ensures.blocks);
      old = c.args.hand.now;
      middle = c.loop-step.hand;
      new = c.claim.new.hand;
      before = c.loop-step.invariant.missed;
    })
    c.claim.result c.in-Some.claimed c.in-Some.is few (omega arith) c.claim.ensures.claimed
