use Rattle.std.proofs.Common.{◌≤◌, length, drop, ap, ◌∙◌, arith}
use Rattle.std.specs.Prelude.{slice_range}
use Rattle.part_lines.proofs.WindowLaws.{passed_bytes}
use Rattle.part_lines.proofs.window.Window.pass.Goals as goal

pub returns : goal.returns
returns c =
    let w = c.self.inside in
    let few : c.args.count ≤ length (slice_range w.bytes.items w.start w.end) = omega (arith, c.requires, ap length c.self.view_is) in
    passed_bytes w.bytes.items w.start w.end c.args.count c.self.invariant.0 c.self.invariant.1 few ∙ ap (drop c.args.count) c.self.view_is
