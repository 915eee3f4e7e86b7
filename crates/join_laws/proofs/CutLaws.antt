-- What a plan allows a record doesn't depend on its number, where the plan doesn't ask for that.
use Rattle.std.specs.Prelude.{Option, Some, None, slice_get}
use Rattle.std.proofs.Common.{◌≡◌, ◌≢◌, ℕ, ◌-◌, false, List, [], ◌∷◌, length, refl, ap, ◌∙◌}
use Rattle.exec_value.specs.declared.data.Datum.{Datum}
use Rattle.exec_value.specs.declared.outcome.Completion.{Completion}
use Rattle.plan_rules.specs.declared.node.Node.{Node}
use Rattle.plan_rules.specs.declared.node.Node.TheVariants.{ReadEnv}
use Rattle.plan_rules.specs.declared.node.Query.TheVariants.{Stop, Record}
use Rattle.plan_rules.specs.declared.stop.StopState.{StopState}
use Rattle.plan_rules.specs.declared.stop.StopState.TheVariants.{Never, May, Stands}
use Rattle.plan_rules.specs.Allowed.{Meaning, Case}
use Rattle.plan_rules.specs.Tables.{case_of}
use Rattle.plan_laws.proofs.Tables.{tables-hold}
use Rattle.plan_laws.proofs.Steps.{absent, first_allowed, case_goes}
use Rattle.plan_shape.specs.Blueprint.{Blueprint}
use Rattle.line_rules.specs.PlanTerms.{AllowsRecord}
use Rattle.join_laws.specs.Joined.{MayBeCut, RequestsNothing}

-- all that one reading allows of nodes another does
abbrev GoOn : (ℕ → Meaning) → (ℕ → Meaning) → Type 0
GoOn First Second = (k : ℕ) (a : List Datum) (q : StopState) (c : Completion) → First k a q c → Second k a q c

case_other : (nodes : List Node) (r s : ℕ) (node : Node) → node ≢ ReadEnv Record → (First Second : ℕ → Meaning) → GoOn First Second
    → (a : List Datum) (q : StopState) (c : Completion) → Case nodes r node First a q c → Case nodes s node Second a q c
case_other nodes r s (ReadEnv Record) other First Second on a q c h = absurd (other refl)
case_other nodes r s (ReadEnv Stop) other First Second on a Never c h = h
case_other nodes r s (ReadEnv Stop) other First Second on a May c h = h
case_other nodes r s (ReadEnv Stop) other First Second on a Stands c h = h
case_other nodes r s node other First Second on a q c h =
    case_goes false (λ k. Unit {0}) (λ k x. tt) First Second (λ k x b z d y. on k b z d y) (λ k x b z d y. on k b z d y)
    nodes s node (λ k d x. tt) a q c h

module _ (nodes : List Node) (r s : ℕ) (no_number : (n : ℕ) → slice_get nodes n ≢ Some (ReadEnv Record)) where
  found : (m : ℕ) (node : Option Node) → slice_get nodes m ≡ node → GoOn (first_allowed nodes r m) (first_allowed nodes s m)
      → (a : List Datum) (q : StopState) (c : Completion)
      → case_of absent (Case nodes r) node (first_allowed nodes r m) a q c → case_of absent (Case nodes s) node (first_allowed nodes s m) a q c
  found m None is before a q c h = h
  found m (Some node) is before a q c h =
      case_other nodes r s node (λ same. no_number m (is ∙ ap Some same)) (first_allowed nodes r m) (first_allowed nodes s m) before a q c h

  first_other : (m : ℕ) → GoOn (first_allowed nodes r m) (first_allowed nodes s m)
  first_other m n =
      tables-hold (λ First Second. (a : List Datum) (q : StopState) (c : Completion) → First a q c → Second a q c)
      absent (λ k below. case_of absent (Case nodes r) (slice_get nodes k) below)
      absent (λ k below. case_of absent (Case nodes s) (slice_get nodes k) below)
      (λ a q c h. h) (λ k before. found k (slice_get nodes k) refl before) m n

any_number : (plan : Blueprint) → RequestsNothing plan → (number other : ℕ) (datum : Datum) (stop : StopState) (completion : Completion)
    → AllowsRecord plan number datum stop completion → AllowsRecord plan other datum stop completion
unfolding AllowsRecord
any_number plan requests number other datum stop completion allows =
    first_other plan.nodes number other requests.no_number (length plan.nodes) (length plan.nodes - 1) (datum ∷ []) stop completion allows

pub may_be_cut : (plan : Blueprint) → RequestsNothing plan → MayBeCut plan
may_be_cut plan requests = record {
  after = requests.after;
  on_error = requests.on_error;
  any_number = any_number plan requests;
}
