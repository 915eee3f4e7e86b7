-- What the plans that add one may complete with: one completion, which is the next number or `overflow`.
use Rattle.std.proofs.Common.{◌≡◌, ℕ, Bool, true, false, [], ◌∷◌, refl, ap, ◌∙◌, subst}
use Rattle.std.specs.Prelude.{ℤ, pos, ◌+ℤ◌, codes, Result, Ok, Err, IfOk, if◌then◌else◌}
use Rattle.exec_job.specs.Answer.{int_answer, ending}
use Rattle.exec_job.specs.declared.fault.JobFault.TheVariants.{Overflow}
use Rattle.exec_job.specs.declared.job.Job.TheVariants.{Add}
use Rattle.exec_value.specs.Number.{is_i64}
use Rattle.exec_value.specs.declared.data.Datum.TheVariants.{Int}
use Rattle.exec_value.specs.declared.outcome.Completion.{Completion}
use Rattle.exec_value.specs.declared.outcome.Completion.TheVariants.{Value, Error}
use Rattle.plan_rules.specs.Allowed.{Allowed}
use Rattle.plan_rules.specs.Images.{then_of}
use Rattle.plan_rules.specs.declared.stop.StopState.TheVariants.{Never}
use Rattle.by_example.specs.Adder.{adder, pool_adder, one_more, next_of}
use Rattle.plan_shape.specs.Blueprint.{Blueprint}
use Rattle.by_example.specs.Answers.{MayComplete}
use Rattle.by_example.specs.declared.fault.AddFault.{AddFault}

-- under no stop request the root completes as its job makes of the child's completion, the child's is the number
pub adds-one : (number : ℤ) (c : Completion) → MayComplete adder number c → c ≡ one_more number
adds-one number c may = may.2 ∙ ap (then_of (Add (pos 1))) may.1

told : (fits : Bool) (next : ℤ) →
    ending (int_answer (if fits then Ok next else Err Overflow))
    ≡ (if fits then Value (Int next ∷ []) else Error (codes "overflow"))
told true next = refl
told false next = refl

pub one-next : (number : ℤ) → one_more number ≡ next_of number
one-next number = told (is_i64 (number +ℤ pos 1)) (number +ℤ pos 1)

-- so an answer is that, in the plan's words and in plain ones
pub answers-one : (plan : Blueprint) (number : ℤ) (answer : Result Completion AddFault) → plan ≡ adder → IfOk answer (MayComplete plan number) →
    IfOk answer (λ c. c ≡ one_more number)
answers-one plan number (Ok c) is may = adds-one number c (subst (λ (p : Blueprint). MayComplete p number c) is may)
answers-one plan number (Err fault) is may = tt

pub answers-next : (plan : Blueprint) (number : ℤ) (answer : Result Completion AddFault) → plan ≡ adder → IfOk answer (MayComplete plan number) →
    IfOk answer (λ c. c ≡ next_of number)
answers-next plan number (Ok c) is may = answers-one plan number (Ok c) is may ∙ one-next number
answers-next plan number (Err fault) is may = tt

-- and so it does on the pool, whatever the record's number
pub pool-adds : (number : ℤ) (r : ℕ) (c : Completion) → Allowed pool_adder.nodes 2 (Int number ∷ []) r Never c → c ≡ next_of number
pool-adds number r c may = may.2 ∙ ap (then_of (Add (pos 1))) may.1 ∙ one-next number
