use Rattle.std.proofs.Common.{◌≡◌, ◌++◌, ℕ, List, codes, ap, subst, ◌∙◌, IfOk}
use Rattle.plan_notation.specs.Assembled.{three}
use Rattle.plan_notation.proofs.assembled.last_json.Goals as goal

pub returns : goal.returns
returns c =
    let said = c.args.said.now in
    let last : c.deref.result.now ≡ said.version ++ codes "}" =
    c.deref.ensures.value ∙ c.in_ok-last.ensures ∙ ap (λ (v : List ℕ). v ++ codes "}") c.version.ensures in
    subst (λ (bytes : List ℕ). IfOk c.three.result (λ text. text.items ≡ bytes))
    (ap (λ (s : List ℕ). three s (codes ",\"version\":") c.deref.result.now) c.stop_after.ensures
    ∙ ap (λ (l : List ℕ). three said.stop_after (codes ",\"version\":") l) last) c.three.ensures
