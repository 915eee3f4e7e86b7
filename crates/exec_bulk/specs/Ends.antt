-- From where in its step a bulk completes.
use Rattle.std.specs.Prelude.{◌≡◌, ℕ, ◌≤◌, Bool, [], length, Some}
use Rattle.exec_job.specs.declared.job.Job.{Job}
use Rattle.plan_rules.specs.declared.node.Node.TheVariants.{Bulk}
use Rattle.plan_shape.specs.Blueprint.{Blueprint}
use Rattle.table_steps.specs.Views.{Board}
use Rattle.home_items.specs.Bounds.{least_of}
use Rattle.home_items.specs.Contents.{Rest}
use Rattle.home_items.specs.Parcels.{Delivery}
use Rattle.exec_recv.specs.Seats.{HandSeat}
use Rattle.exec_recv.specs.Sites.{node_at}
use Rattle.start_laws.specs.Holding.{IsFromBelow}
use Rattle.step_parts.specs.Heard.{has_heard}
use Rattle.step_parts.specs.Midway.{Ready}
use Rattle.step_parts.specs.Stepping.{Stepping}
use Rattle.step_parts.specs.Takes.{IsTaken}
use Rattle.exec_bulk.specs.declared.joining.Made.{Made}
use Rattle.exec_bulk.specs.Begins.{MayGoOn}
use Rattle.exec_bulk.specs.Made.{IsFrontMade}
use Rattle.exec_bulk.specs.Rows.{numbers_in, parts_for}

module _ (board : Board Blueprint) (t : Stepping) where
  -- Its child has completed with no row, or with an empty one.
  pub record MayPass (parcel : Delivery) (hand : HandSeat) : Type 0 where
    pub goes_on : MayGoOn board t parcel hand
    pub none : numbers_in parcel.completion ≡ []

  -- It kept a row with numbers of its child, which saw a request or didn't, and its parts come to
  -- this.
  pub record MayEndParts (saw : Bool) (made : Made) (hand : HandSeat) : Type 0 where
    pub taken : IsTaken board t hand
    pub child : ℕ
    pub job : Job
    pub node_is : node_at board t.name ≡ Some (Bulk child job)
    pub kept : Delivery
    pub saw_is : saw ≡ kept.saw
    pub ready : Ready board t.name t.start (least_of (Rest t.start (Some kept))) hand.me
    pub from : IsFromBelow t.start kept (has_heard board t.name hand.me)
    pub some : 1 ≤ length (numbers_in kept.completion)
    pub made_is : IsFrontMade made job (numbers_in kept.completion)
        (parts_for (numbers_in kept.completion))
