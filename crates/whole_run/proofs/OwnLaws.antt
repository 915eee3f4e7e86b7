-- Hand 0's desk comes back from a run.
use Rattle.std.proofs.Common.{ℕ, subst}
use Rattle.std.specs.Prelude.{Option}
use Rattle.deck_relay.specs.Desks.{KeepsOwn}
use Rattle.deck_relay.specs.declared.desk.Desk.{Desk}
use Rattle.plan_shape.specs.Blueprint.{Blueprint}
use Rattle.table_steps.specs.Views.{Board}
use Rattle.whole_run.specs.Owns.{IsMarkedBy}

-- a run that a mark tells of gives its desk back
pub marked-kept : (is : Board Blueprint → Type 0) (claimed : ℕ) (marked : Option Desk) (board : Board Blueprint) (desk back : Option Desk) →
    IsMarkedBy is claimed marked board desk → KeepsOwn marked back → KeepsOwn desk back
marked-kept is claimed marked board desk back mark kept = subst (λ d. KeepsOwn d back) mark.desk_is kept
