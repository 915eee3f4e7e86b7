use Rattle.std.proofs.Common.{◌<◌, ◌≤◌, arith}
use Rattle.exec_life.specs.StateLists.{machine}
use Rattle.trace_reasons.specs.Open.{block_mark}
use Rattle.trace_reasons.proofs.Marks.{marks-more, marks-all}
use Rattle.trace_reasons.proofs.open.put_block_marks.Goals as goal

pub loop-block-preserved : goal.loop-block-preserved
loop-block-preserved c =
    let s = machine c.args.state.now in
    let here : c.loop-block.block < s.blocks = omega arith in
    marks-more (block_mark s) s.blocks c.loop-block.block c.loop-block.invariant c.in_ok-put_block_mark.ensures here

pub returns : goal.returns
returns c =
    let s = machine c.args.state.now in
    let all : s.blocks ≤ c.loop-block.block = omega arith in
    marks-all (block_mark s) s.blocks c.loop-block.block c.loop-block.invariant all
