use Rattle.std.proofs.Common.{◌≡◌, ℕ, List, codes, ap, subst, ◌∙◌, IfOk}
use Rattle.plan_notation.specs.Assembled.{five, root_json}
use Rattle.plan_notation.proofs.assembled.plan_json.Goals as goal

pub returns : goal.returns
returns c =
    let said = c.args.said.now in
    let later : c.deref.result.now ≡ root_json said c.args.root.now = c.deref.ensures.value ∙ c.in_ok-later.ensures in
    subst (λ (bytes : List ℕ). IfOk c.five.result (λ text. text.items ≡ bytes))
    (ap (λ (i : List ℕ). five (codes "{\"input\":") i (codes ",\"on_error\":") c.on_error.result.now c.deref.result.now) c.input.ensures
    ∙ ap (λ (o : List ℕ). five (codes "{\"input\":") said.input (codes ",\"on_error\":") o c.deref.result.now) c.on_error.ensures
    ∙ ap (λ (l : List ℕ). five (codes "{\"input\":") said.input (codes ",\"on_error\":") said.on_error l) later) c.five.ensures
