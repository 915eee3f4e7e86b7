use Rattle.std.proofs.Common.{arith}
use Rattle.pictures.specs.Traces.Headings.{lane_text}
use Rattle.pictures.proofs.TraceLaws.Rows.{row-each, row-more}
use Rattle.pictures.proofs.traces.picture.put_lanes.Goals as goal

pub loop-hand-preserved : goal.loop-hand-preserved
loop-hand-preserved c =
    row-more (lane_text c.args.frame) c.args.hands c.loop-hand.hand c.loop-hand.invariant c.in_ok-put_lane.ensures (omega arith)

pub returns : goal.returns
returns c = row-each (lane_text c.args.frame) c.args.hands c.loop-hand.hand c.loop-hand.invariant (omega arith)
