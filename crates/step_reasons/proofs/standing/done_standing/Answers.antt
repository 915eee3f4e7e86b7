use Rattle.std.proofs.Common.{◌≡◌, ◌<◌, length, ap, ◌∙◌, arith}
use Rattle.std.specs.Prelude.{nat_lt}
use Rattle.std.proofs.lemmas.Bool.{and_parts, ltb-true}
use Rattle.exec_life.specs.StateLists.{machine}
use Rattle.life_rules.specs.States.{size}
use Rattle.step_reasons.proofs.standing.done_standing.Goals as goal

pub overflow_add-place : goal.overflow_add-place
overflow_add-place c =
    let s = machine c.args.state.now in
    let p = c.args.place in
    let nodes : c.size-size.result ≡ size s = c.size-size.ensures.size ∙ ap length c.tree.ensures in
    let within : p.node < size s = ltb-true p.node (size s) (and_parts (nat_lt p.block s.blocks) _ c.requires).1 in
    omega (arith, within, nodes, c.size-size.ensures.bound)
