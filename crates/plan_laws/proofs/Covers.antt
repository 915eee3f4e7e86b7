-- Where a stop may come, all that is allowed else stays allowed.
use Rattle.std.proofs.Common.{ℕ, true, List, length}
use Rattle.exec_value.specs.declared.data.Datum.{Datum}
use Rattle.exec_value.specs.declared.outcome.Completion.{Completion}
use Rattle.plan_rules.specs.declared.node.Node.{Node}
use Rattle.plan_rules.specs.declared.stop.StopState.{StopState}
use Rattle.plan_rules.specs.declared.stop.StopState.TheVariants.{May}
use Rattle.plan_rules.specs.Allowed.{Case}
use Rattle.plan_laws.specs.Laws.{MayCovers}
use Rattle.plan_laws.proofs.Tables.{nodes-hold}
use Rattle.plan_laws.proofs.Steps.{absent, first_allowed, case_goes}

pub first-covers : (nodes : List Node) (r m n : ℕ) (a : List Datum) (q : StopState) (c : Completion) →
    first_allowed nodes r m n a q c → first_allowed nodes r m n a May c
first-covers nodes r m n =
    nodes-hold
    (λ First Second. (a : List Datum) (q : StopState) (c : Completion) → First a q c → Second a May c)
    absent (Case nodes r) absent (Case nodes r) nodes (λ a q c h. h)
    (λ m node before a q c h.
    case_goes true (λ k. Unit {0}) (λ k x. tt) (first_allowed nodes r m) (first_allowed nodes r m)
    (λ k x b s d y. y) (λ k x b s d y. before k b s d y) nodes r node (λ k d x. tt) a q c h)
    m n

pub may-covers : MayCovers
may-covers nodes n a r q c h = first-covers nodes r (length nodes) n a q c h
