use Rattle.std.proofs.Common.{List, ℕ, [], sym, ap, ◌∙◌}
use Rattle.std.proofs.lemmas.Bool.{cond-false, cond-true, false_from_ne_true}
use Rattle.std.proofs.lemmas.Str.{IsUtf8-from_is_utf8, is_utf8-from_IsUtf8}
use Rattle.std.specs.Str.{is_utf8}
use Rattle.plan_notation.specs.Arguments.{token_name}
use Rattle.plan_notation.proofs.arguments.token_name.Goals as goal

pub returns-in-Ok : goal.returns-in-Ok
returns-in-Ok c =
    c.in-Ok.ensures.cases.0
    ∙ sym (cond-true (is_utf8 c.text.result.now) c.text.result.now [] (is_utf8-from_IsUtf8 c.text.result.now c.in-Ok.ensures.cases.1))
    ∙ ap (λ (text : List ℕ). token_name text) c.text.ensures

pub returns-in-Err : goal.returns-in-Err
returns-in-Err c =
    sym (cond-false (is_utf8 c.text.result.now) c.text.result.now []
    (false_from_ne_true (is_utf8 c.text.result.now) (λ text. c.in-Err.ensures.cases.0 (IsUtf8-from_is_utf8 c.text.result.now text))))
    ∙ ap (λ (text : List ℕ). token_name text) c.text.ensures
