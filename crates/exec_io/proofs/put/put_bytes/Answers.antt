use Rattle.std.proofs.Common.{arith, length-drop}
use Rattle.exec_io.proofs.PutsLemmas.{Puts-more, rest_of}
use Rattle.exec_io.proofs.put.put_bytes.Goals as goal

pub loop-done-preserved : goal.loop-done-preserved
loop-done-preserved g c =
    let bytes = c.args.bytes.now in
    let done = c.loop-done.done in
    let wrote = c.in_ok-done.ensures in
    let rest = rest_of bytes done in
    record {
      within = omega (arith, wrote.count.1, length-drop done bytes, c.loop-done.invariant.within);
      put = Puts-more bytes _ done c.in_ok-done.field-0 rest c.loop-done.invariant.put wrote.count.1 wrote.ok wrote.held wrote.cause;
    }
