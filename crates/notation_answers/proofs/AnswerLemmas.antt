-- A plan that is refused is told.
use Rattle.std.proofs.Common.{◌≡◌, ℕ, false, List, inr}
use Rattle.std.specs.Prelude.{string_bytes}
use Rattle.plan_places.specs.declared.refusal.Refusal.{Refusal}
use Rattle.notation_answers.specs.declared.answer.NotationFault.TheVariants.{Plan}
use Rattle.notation_answers.specs.Answers.{IsAnswer, sentence_at}
use Rattle.notation_answers.specs.Plans.{IsFaultIn}

pub plan_refused : (text : List ℕ) (refusal : Refusal) (at : ℕ) (told : List ℕ) → IsFaultIn text (Plan refusal at)
    → told ≡ sentence_at text at (string_bytes refusal.reason) → IsAnswer false text told
plan_refused text refusal at told fault is =
    inr (record { refusal = refusal; at = at; is_refused = fault; told_is = is })
