use Rattle.std.proofs.Common.{◌≡◌, w64, to_z, of_z, subst, arith}
use Rattle.std.specs.Prelude.{ℤ, IfOk}
use Rattle.std.proofs.lemmas.Int.{to_z-of_z}
use Rattle.by_example.specs.Answers.{MayComplete}
use Rattle.by_example.proofs.AdderAllowed.{answers-next, answers-one}
use Rattle.by_example.proofs.AdderKinds.{adder-of-ints}
use Rattle.by_example.proofs.OneHands.{first-new}
use Rattle.by_example.proofs.adding.add_one.Goals as goal

pub run_number-answer-requires-clause-hand : goal.run_number-answer-requires-clause-hand
run_number-answer-requires-clause-hand g c κs within =
    first-new c.in_ok-table.table c.in_ok-table.hands.items c.remove-hand.result c.in_ok-table.ensures.hands c.remove-hand.ensures.value

pub run_number-answer-requires-clause-plan : goal.run_number-answer-requires-clause-plan
run_number-answer-requires-clause-plan g c κs within =
    adder-of-ints c.in_ok-plan.plan c.in_ok-steps.steps c.in_ok-plan.ensures c.in_ok-steps.ensures.steps c.in_ok-steps.ensures.kinds

pub returns-clause-then : goal.returns-clause-then
returns-clause-then g c =
    let number = c.args.number in
    let answer = c.run_number-answer.result.completion in
    let same : to_z w64 (of_z w64 number) ≡ number = grind (arith, to_z-of_z) in
    answers-one c.in_ok-plan.plan number answer c.in_ok-plan.ensures
    (subst (λ (n : ℤ). IfOk answer (MayComplete c.in_ok-plan.plan n)) same c.run_number-answer.ensures.completion)

pub returns-clause-next : goal.returns-clause-next
returns-clause-next g c =
    let number = c.args.number in
    let answer = c.run_number-answer.result.completion in
    let same : to_z w64 (of_z w64 number) ≡ number = grind (arith, to_z-of_z) in
    answers-next c.in_ok-plan.plan number answer c.in_ok-plan.ensures
    (subst (λ (n : ℤ). IfOk answer (MayComplete c.in_ok-plan.plan n)) same c.run_number-answer.ensures.completion)
