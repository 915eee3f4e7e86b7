use Rattle.std.proofs.Common.{sym, ap, ◌∙◌}
use Rattle.exec_life.specs.StateLists.{machine}
use Rattle.step_reasons.specs.Scanning.{at_is}
use Rattle.step_reasons.proofs.ScanPlaces.{near-test}
use Rattle.step_reasons.proofs.reading.is_nearest.Goals as goal

pub returns : goal.returns
returns c =
    c.is_named.ensures ∙ ap (at_is c.args.source) c.nearest_source.ensures ∙ sym (near-test (machine c.args.state.now) c.args.place c.args.source)
