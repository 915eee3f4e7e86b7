use Rattle.std.proofs.Common.{◌≡◌, ◌<◌, ◌≤◌, length, ap, ◌∙◌, arith}
use Rattle.exec_life.specs.StateLists.{machine}
use Rattle.life_rules.specs.declared.event.SourceAt.TheVariants.{At}
use Rattle.replay_core.specs.Candidates.{place_of}
use Rattle.trace_reasons.specs.Open.{scan_mark}
use Rattle.life_rules.specs.States.{size}
use Rattle.trace_reasons.proofs.Marks.{marks-more, marks-all}
use Rattle.trace_reasons.proofs.open.put_scans_in.Goals as goal

pub loop-node-preserved : goal.loop-node-preserved
loop-node-preserved c =
    let s = machine c.args.state.now in
    let nodes : c.size-node-end.result ≡ size s = c.size-node-end.ensures.size ∙ ap length c.tree.ensures in
    let here : c.loop-node.node < size s = omega (arith, nodes) in
    marks-more (λ n. scan_mark s (At (place_of c.args.block n))) (size s) c.loop-node.node c.loop-node.invariant c.in_ok-put_scan_mark.ensures here

pub returns : goal.returns
returns c =
    let s = machine c.args.state.now in
    let nodes : c.size-node-end.result ≡ size s = c.size-node-end.ensures.size ∙ ap length c.tree.ensures in
    let all : size s ≤ c.loop-node.node = omega (arith, nodes) in
    marks-all (λ n. scan_mark s (At (place_of c.args.block n))) (size s) c.loop-node.node c.loop-node.invariant all
