use Rattle.std.proofs.Common.{ℕ, List, sym, ap, subst, ◌∙◌}
use Rattle.notation_answers.specs.declared.answer.NotationFault.TheVariants.{Plan}
use Rattle.notation_answers.specs.declared.answer.Written.{Written}
use Rattle.notation_answers.specs.Answers.{IsAnswerOf, sentence_at}
use Rattle.notation_answers.specs.Plans.{IsFaultIn}
use Rattle.notation_answers.proofs.AnswerLemmas.{plan_refused}
use Rattle.notation_answers.proofs.answer.written_of.Goals as goal

pub returns-in_ok-at_place-in-Err-Plan : goal.returns-in_ok-at_place-in-Err-Plan
returns-in_ok-at_place-in-Err-Plan c =
    let fault : IsFaultIn c.args.text.now (Plan c.in-Err-Plan.refusal c.in-Err-Plan.at) =
    rw c.in-Err-Plan.field-0-is at c.in-Err-Plan.ensures.err in
    subst (λ (w : Written). IsAnswerOf c.args.text.now w) (sym c.refused-in-Err-Plan.ensures)
    (plan_refused c.args.text.now c.in-Err-Plan.refusal c.in-Err-Plan.at c.in_ok-at_place-in-Err-Plan.field-0.items fault
    (c.in_ok-at_place-in-Err-Plan.ensures
    ∙ ap (λ (reason : List ℕ). sentence_at c.args.text.now c.in-Err-Plan.at reason) c.as_str.ensures.value))
