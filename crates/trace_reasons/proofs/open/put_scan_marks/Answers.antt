use Rattle.std.proofs.Common.{◌<◌, ◌≤◌, arith}
use Rattle.exec_life.specs.StateLists.{machine}
use Rattle.trace_reasons.specs.Open.{scan_marks}
use Rattle.trace_reasons.proofs.Marks.{marks-more, marks-all}
use Rattle.trace_reasons.proofs.open.put_scan_marks.Goals as goal

pub loop-block-preserved : goal.loop-block-preserved
loop-block-preserved c =
    let s = machine c.args.state.now in
    let here : c.loop-block.block < s.blocks = omega arith in
    marks-more (scan_marks s) s.blocks c.loop-block.block c.loop-block.invariant c.in_ok-put_scans_in.ensures here

pub returns : goal.returns
returns c =
    let s = machine c.args.state.now in
    let all : s.blocks ≤ c.loop-block.block = omega arith in
    marks-all (scan_marks s) s.blocks c.loop-block.block c.loop-block.invariant all
