-- What the step of an `ahead` does.
use Rattle.std.specs.Prelude.{⊤, ℕ, Option, Some}
use Rattle.life_rules.specs.declared.event.Name.{Name}
use Rattle.life_rules.specs.declared.event.Resting.TheVariants.{Parked as IsParked}
use Rattle.plan_rules.specs.declared.node.Node.{Node}
use Rattle.plan_rules.specs.declared.node.Node.TheVariants.{Ahead}
use Rattle.plan_shape.specs.Blueprint.{Blueprint}
use Rattle.table_steps.specs.Views.{Board}
use Rattle.exec_recv.specs.declared.next.Next.{Next}
use Rattle.exec_recv.specs.Seats.{HandSeat}
use Rattle.step_parts.specs.Leaves.{LeavesAt}
use Rattle.step_parts.specs.Takes.{parcel_of, TakesUp}
use Rattle.step_parts.specs.declared.taken.TakenUp.{TakenUp}

module _ (board : Board Blueprint) (x : Name) where
  -- An `ahead` was taken up, and then it was left parked: with its second child's parcel once that
  -- has completed, and else with what it kept.
  pub record ParksWith (second : ℕ) (next : Next) (old new : HandSeat) : Type 0 where
    pub up : TakenUp
    pub middle : HandSeat
    pub takes : TakesUp board x (Some second) up old middle
    pub parks : LeavesAt board up.taken (parcel_of up.found) IsParked next middle new

  abbrev pub ParksAs : Option Node → Next → HandSeat → HandSeat → Type 0
  ParksAs (Some (Ahead first second)) next old new = ParksWith second next old new
  ParksAs _ next old new = ⊤
