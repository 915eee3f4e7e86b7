use Rattle.std.proofs.Common.{◌==◌, length, refl, ap, ◌∙◌}
use Rattle.record_lines.proofs.CutterLaws.{StandsAfter-start, Finishes-from_kept}
use Rattle.record_lines.proofs.cutting.Cutter.finish.Goals as goal

pub returns-clause-last : goal.returns-clause-last
returns-clause-last c =
    let is_empty = c.is_empty-has_last_line.ensures ∙ ap (λ rest. length rest == 0) c.rest.ensures in
    Finishes-from_kept c.self.inside.kept.items c.self.inside.is_ended c.args.self.now c.is_empty-has_last_line.result _ c.then_some.result c.self.view_is is_empty c.then_some.ensures

pub returns-clause-start : goal.returns-clause-start
returns-clause-start c = StandsAfter-start _ refl
