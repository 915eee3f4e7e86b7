use Rattle.std.proofs.Common.{List, ℕ, true, sym, ap, ◌∙◌, subst}
use Rattle.trace_reasons.specs.Explaining.{Explains, taken_text}
use Rattle.trace_reasons.specs.Explaining.Explains.{taken as is_taken}
use Rattle.trace_reasons.proofs.telling.taken.Goals as goal

pub returns : goal.returns
returns c =
    let t = c.args.trace.now in
    let text = c.in_ok-text.ensures ∙ ap (taken_text c.args.count) c.in_ok-state.ensures in
    subst (λ (l : List ℕ). Explains t true l) (sym text) (is_taken c.args.count c.requires)
