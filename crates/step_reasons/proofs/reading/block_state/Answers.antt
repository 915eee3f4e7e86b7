use Rattle.std.proofs.Common.{ap, ◌∙◌}
use Rattle.life_rules.specs.declared.words.BlockWord.{BlockWord}
use Rattle.step_reasons.proofs.reading.block_state.Goals as goal

pub returns : goal.returns
returns c = ap (λ (w : BlockWord). w.state) (c.block.ensures ∙ c.words.ensures.tells.block c.args.block)
