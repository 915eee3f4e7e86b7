use Rattle.std.proofs.Common.{sym, arith}
use Rattle.std.proofs.lemmas.Bool.{le-ltb}
use Rattle.exec_life.specs.StateLists.{machine}
use Rattle.step_reasons.proofs.Passing.{stopped}
use Rattle.step_reasons.proofs.life_reasons.release_reason.Goals as goal

pub returns-then-block-blocks : goal.returns-then-block-blocks
returns-then-block-blocks c =
    let s = machine c.args.state.now in
    sym (stopped _ _ _ (le-ltb c.args.block s.blocks (omega (arith, c.if-block-blocks.true, c.blocks-2.ensures))))
