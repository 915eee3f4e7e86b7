use Rattle.std.proofs.Common.{◌<◌, ◌+◌, ◌-◌, ℕ, List, length, drop, sym, ap, ◌∙◌, arith}
use Rattle.notation_answers.specs.Paths.{node_on_path, spot_at}
use Rattle.notation_answers.proofs.PathLemmas.{path_ended, path_goes}
use Rattle.notation_answers.proofs.path.node_spot.Goals as goal

pub returns-in-None : goal.returns-in-None
returns-in-None c =
    let spots = c.args.read.now.spots in
    let left = length c.args.path.now - c.steps._count in
    c.spot_at.ensures
    ∙ ap (λ (n : ℕ). spot_at spots n)
    (sym (path_ended left spots c.steps.rest.now c.steps.number (sym c.in-None.ensures)) ∙ c.steps.invariant)

pub steps-preserved : goal.steps-preserved
steps-preserved c =
    let spots = c.args.read.now.spots in
    let within : c.steps._count < length c.args.path.now = omega arith in
    let left = length c.args.path.now - (c.steps._count + 1) in
    ap (λ (r : List ℕ). node_on_path left spots r c.child_at-number.result) c.behind-rest.ensures
    ∙ ap (λ (n : ℕ). node_on_path left spots (drop c.in-Some.step.length c.steps.rest.now) n) c.child_at-number.ensures
    ∙ sym (path_goes (length c.args.path.now) c.steps._count spots c.steps.rest.now c.steps.number c.in-Some.step within (sym c.in-Some.ensures))
    ∙ c.steps.invariant
