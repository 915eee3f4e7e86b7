use Rattle.std.proofs.Common.{◌<◌, length, arith}
use Rattle.trace_reasons.proofs.Along.{state-next}
use Rattle.trace_reasons.proofs.walk.state_after.Goals as goal

pub loop-index-preserved : goal.loop-index-preserved
loop-index-preserved c =
    let t = c.args.trace.now in
    let here : c.loop-index.index < length t.entries = omega (arith, c.requires) in
    state-next t _ c.loop-index.index _ _ _ c.entries-entries.ensures here c.index-entries-index.is c.loop-index.invariant c.in_ok-advance.ensures
