use Rattle.std.proofs.Common.{ap, sym, ◌∙◌}
use Rattle.std.specs.Prelude.{Some}
use Rattle.std.proofs.lemmas.Option.{slice_get-get_or}
use Rattle.exec_life.specs.Parts.{lists_of}
use Rattle.exec_life.proofs.parts.Parts.view.Goals as goal

pub returns : goal.returns
returns c =
    let d = lists_of c.args.self.now in
    let v = c.index.result.now in
    slice_get-get_or d.views c.args.hand v c.requires ∙ ap Some (sym c.index.ensures)
