use Rattle.std.proofs.Common.{◌≡◌, ℕ, List, codes, ap, subst, ◌∙◌, IfOk}
use Rattle.plan_notation.specs.Assembled.{five, last_json}
use Rattle.plan_notation.proofs.assembled.root_json.Goals as goal

pub returns : goal.returns
returns c =
    let said = c.args.said.now in
    let last : c.deref.result.now ≡ last_json said = c.deref.ensures.value ∙ c.in_ok-last.ensures in
    subst (λ (bytes : List ℕ). IfOk c.five.result (λ text. text.items ≡ bytes))
    (ap (λ (s : List ℕ). five (codes ",\"root\":") c.args.root.now (codes ",\"scope\":") s c.deref.result.now) c.scope.ensures
    ∙ ap (λ (l : List ℕ). five (codes ",\"root\":") c.args.root.now (codes ",\"scope\":") said.scope l) last) c.five.ensures
