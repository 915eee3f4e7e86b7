use Rattle.std.proofs.Common.{List, ℕ, ◌++◌, codes, ap, ◌∙◌}
use Rattle.plan_reasons.proofs.sentence.no_object.Goals as goal

pub returns : goal.returns
returns c =
    c.in_ok-text.ensures.ok
    ∙ ap (λ (text : List ℕ). c.args.who.now ++ (codes " is an object, not " ++ text)) c.in_ok-shown.ensures
