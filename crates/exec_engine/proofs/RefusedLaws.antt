-- A plan or its refusal: what stands under a name is one of them.
use Rattle.std.proofs.Common.{◌≡◌, ℕ, Bool, true, false, IsTrue, IsFalse, List, Option, refl, sym, ◌∙◌, subst}
use Rattle.std.specs.Prelude.{Result, Ok, Err}
use Rattle.exec_io.specs.Shelves.{Texts, Stands}
use Rattle.exec_io.proofs.GivenLemmas.{given-stands}
use Rattle.plan_rules.specs.Exclusion.{exclude_each_other}
use Rattle.plan_shape.specs.Blueprint.{Blueprint}
use Rattle.plan_reader.specs.declared.fault.PlanFault.{PlanFault}
use Rattle.plan_reader.specs.declared.fault.PlanFault.TheVariants.{TooLong, NotJson, Form, UnknownName, Limit, Kinds, Excluded, NoMemory}
use Rattle.plan_reader.specs.declared.read.TheConstants.{MOST_PLAN_BYTES}
use Rattle.plan_reader.specs.PlanFile.{IsPlanOf, IsAccepted, IsRefused as IsRefusedFor}
use Rattle.exec_engine.specs.Opening.{IsRefused, HasPlan, HasPlanRefusal}

-- a result has one answer
one-ok : {A B : Type 0} {result : Result A B} {a b : A} → result ≡ Ok a → result ≡ Ok b → a ≡ b
one-ok {a = a} {b = b} one other = let both : Ok a ≡ Ok b = sym one ∙ other in cc

ok-or-err : {A B : Type 0} {result : Result A B} {a : A} {e : B} → result ≡ Ok a → result ≡ Err e → ⊥
ok-or-err {a = a} {e = e} one other = let both : Ok a ≡ Err e = sym one ∙ other in cc

-- bytes are one plan
pub same-plan : (bytes : List ℕ) (first second : Blueprint) → IsPlanOf bytes first → IsPlanOf bytes second → first ≡ second
same-plan bytes first second one other =
    let there : IsAccepted one.0 second = subst (λ found. IsAccepted found second) (sym (one-ok one.1 other.1)) other.2 in
    one.2.same ∙ sym there.same

not-true : (b : Bool) → IsTrue b → IsFalse b → ⊥
not-true b holds fails = let wrong : true ≡ false = sym holds ∙ fails in cc

-- and a plan is refused for no cause
pub not-refused : (bytes : List ℕ) (plan : Blueprint) (fault : PlanFault) → IsPlanOf bytes plan → IsRefused bytes fault → ⊥
not-refused bytes plan TooLong is refused = ok-or-err is.1 refused.1
not-refused bytes plan NotJson is refused = ok-or-err is.1 refused.1
not-refused bytes plan Form is refused = ok-or-err is.1 refused.1
not-refused bytes plan UnknownName is refused = ok-or-err is.1 refused.1
not-refused bytes plan Limit is refused = ok-or-err is.1 refused.1
not-refused bytes plan Kinds is refused =
    let there : IsRefusedFor is.0 Kinds = subst (λ found. IsRefusedFor found Kinds) (sym (one-ok is.1 refused.1.1)) refused.1.2 in
    there is.2.matches
not-refused bytes plan Excluded is refused =
    let there : IsRefusedFor is.0 Excluded = subst (λ found. IsRefusedFor found Excluded) (sym (one-ok is.1 refused.1.1)) refused.1.2 in
    let P : Blueprint → Type 0 = λ p. IsFalse (exclude_each_other p.settings) in
    not-true (exclude_each_other is.0.plan.settings) there.1 (subst P is.2.same is.2.rules)
not-refused bytes plan NoMemory is refused = refused.0 refl

module _ {texts : Option Texts} {name : List ℕ} where
  -- a plan that was opened is the one that stands there
  pub stands-same : {plan other : Blueprint} → HasPlan texts name plan → Stands MOST_PLAN_BYTES texts name (λ bytes. IsPlanOf bytes other) → plan ≡ other
  stands-same {plan = plan} {other = other} has stands =
      same-plan has.bytes plan other has.opened.is (given-stands MOST_PLAN_BYTES texts name has.bytes (λ bytes. IsPlanOf bytes other) has.given stands)

  -- it isn't refused
  pub opened-stands : {plan : Blueprint} (fault : PlanFault) → HasPlan texts name plan → Stands MOST_PLAN_BYTES texts name (λ bytes. IsRefused bytes fault) → ⊥
  opened-stands {plan = plan} fault has stands =
      not-refused has.bytes plan fault has.opened.is (given-stands MOST_PLAN_BYTES texts name has.bytes (λ bytes. IsRefused bytes fault) has.given stands)

  -- and what was refused is no plan
  pub refused-stands : (plan : Blueprint) (fault : PlanFault) → HasPlanRefusal texts name fault → Stands MOST_PLAN_BYTES texts name (λ bytes. IsPlanOf bytes plan) → ⊥
  refused-stands plan fault has stands =
      not-refused has.bytes plan fault (given-stands MOST_PLAN_BYTES texts name has.bytes (λ bytes. IsPlanOf bytes plan) has.given stands) has.refused
