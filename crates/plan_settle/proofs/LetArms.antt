-- How a let settles once its child has.
use Rattle.std.specs.Prelude.{Option, Some, None, Result, Ok, Err, IsOk, IsErr, OnErr, IfSome}
use Rattle.std.proofs.Common.{◌≡◌, ℕ, List, [], ◌∷◌, refl, sym, ap, ◌∙◌, subst}
use Rattle.std.specs.declared.alloc.AllocError.{AllocError}
use Rattle.std.proofs.lemmas.Option.{same_Some}
use Rattle.exec_value.specs.Place.{AreInPlace}
use Rattle.exec_value.specs.declared.data.Datum.{Datum}
use Rattle.exec_value.specs.declared.data.Datum.TheVariants.{Int}
use Rattle.exec_value.specs.declared.outcome.Completion.{Completion}
use Rattle.exec_job.specs.Answer.{Answer, EndsInPlace, ending}
use Rattle.exec_job.specs.Apply.{apply_of}
use Rattle.exec_job.specs.declared.job.Job.{Job}
use Rattle.plan_rules.specs.Allowed.{body_at}
use Rattle.plan_rules.specs.Settle.{picked_of}
use Rattle.plan_settle.specs.declared.evaluation.Evaluation.{Evaluation}
use Rattle.node_images.specs.Picks.{picked_body}
use Rattle.plan_settle.specs.Lets.{settled_let}
use Rattle.plan_settle.specs.Runs.{MayPick}
use Rattle.plan_settle.specs.Settles.{Settles, settled_by}
use Rattle.plan_settle.proofs.InPlace.{wants-where}

picked-body : (answer : Answer) (bodies : List ℕ) (body : ℕ → Completion) (place : ℕ) →
    picked_body (ending answer) bodies ≡ Some place → picked_of answer bodies body ≡ body place
picked-body (Ok (Int k ∷ [])) bodies body place is = ap body (same_Some (body_at bodies k) place is)
picked-body answer bodies body place is = cc

picked-passes : (answer : Answer) (bodies : List ℕ) (body : ℕ → Completion) →
    picked_body (ending answer) bodies ≡ None → ending answer ≡ picked_of answer bodies body
picked-passes (Ok (Int k ∷ [])) bodies body is = cc
picked-passes answer bodies body is = refl

module _ (run : Evaluation) (pick : Job) (bodies : List ℕ) {taken : Option (List Datum)}
    {values : List Datum} (has : taken ≡ Some values) (left : Completion) where
  abbrev chosen : Completion
  chosen = settled_let run pick bodies taken left

  is-chosen : settled_let run pick bodies (Some values) left ≡ chosen
  is-chosen = ap (λ t. settled_let run pick bodies t left) (sym has)

  module _ {answer : Completion} (exact : answer ≡ ending (apply_of pick values)) where
    -- the picked body's completion is the let's
    pub body-settles : {place : ℕ} → picked_body answer bodies ≡ Some place → (made : Completion)
        (result : Result (Unit {0}) AllocError) → Settles run (settled_by run place values) made result →
        Settles run (settled_let run pick bodies taken left) made result
    body-settles {place} is made result settles =
        let picked = picked-body (apply_of pick values) bodies (λ n. settled_by run n values) place
        (ap (λ c. picked_body c bodies) (sym exact) ∙ is) in
        subst (λ c. Settles run c made result) (sym picked ∙ is-chosen) settles

    -- another answer of the pick passes
    pub pick-settles : picked_body answer bodies ≡ None →
        Settles run (settled_let run pick bodies taken left) answer (Ok tt)
    pick-settles is =
        let passes = picked-passes (apply_of pick values) bodies (λ n. settled_by run n values)
        (ap (λ c. picked_body c bodies) (sym exact) ∙ is) in
        record { exact = exact ∙ passes ∙ is-chosen; small = λ small. tt }

  -- neither the copy of the values nor the pick finds no memory, unless a name is long
  pub pick-wants : {A : Type 0} (n : ℕ) → IfSome taken (MayPick run n pick bodies) → (made : Completion)
      (tried : Result A AllocError) →
      (AreInPlace values × EndsInPlace (apply_of pick values) → IsOk tried) → IsErr tried →
      (e : AllocError) → Settles run (settled_let run pick bodies taken left) made (Err e)
  pick-wants {A} n may made tried fine failed e =
      let picks : MayPick run n pick bodies values = subst (λ t. IfSome t (MayPick run n pick bodies)) has may in
      record {
        exact = tt;
        small = λ small. err-holds tried failed (wants-where tried fine (picks.in_place small));
      }
    where
      err-holds : {Q : Type 0} (r : Result A AllocError) → IsErr r → OnErr r Q → Q
      err-holds (Ok a) failed q = cc
      err-holds (Err e) failed q = q
