use Rattle.std.proofs.Common.{sym, ◌∙◌}
use Rattle.std.proofs.lemmas.Bool.{leb-true}
use Rattle.exec_life.specs.StateLists.{machine}
use Rattle.life_rules.specs.States.{name_at}
use Rattle.life_rules.specs.StopSteps.{source_of}
use Rattle.step_reasons.proofs.ScanPlaces.{running-next}
use Rattle.step_reasons.proofs.reading.is_next_in.Goals as goal

pub returns-then-has_part : goal.returns-then-has_part
returns-then-has_part c =
    let s = machine c.args.state.now in
    c.is_nearest.ensures
    ∙ running-next s c.args.hand (source_of s c.args.source) (name_at s c.args.place) c.words-words.ensures.sound c.requires.hand
    (leb-true 1 _ (sym c.has_part.ensures ∙ c.if-has_part.true))
