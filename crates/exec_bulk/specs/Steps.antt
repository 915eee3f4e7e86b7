-- What the step of a bulk does ([exec.bulk]).
use Rattle.std.specs.Prelude.{◌≡◌, ◌≢◌, ◌⊎◌, ℕ, ◌≤◌, Bool, false, List, ℤ, [], length, Option, Some, None}
use Rattle.exec_job.specs.declared.job.Job.{Job}
use Rattle.exec_value.specs.declared.outcome.Completion.{Completion}
use Rattle.exec_value.specs.declared.outcome.Completion.TheVariants.{NoMemory}
use Rattle.life_rules.specs.declared.event.Name.{Name}
use Rattle.node_images.specs.Makes.{CompletesInPlace}
use Rattle.plan_rules.specs.Bulks.{bulk_of, each_of, row_ending}
use Rattle.plan_rules.specs.declared.node.Node.TheVariants.{Bulk}
use Rattle.plan_shape.specs.Blueprint.{Blueprint}
use Rattle.table_steps.specs.Views.{Board}
use Rattle.home_items.specs.declared.item.Item.{Item}
use Rattle.home_items.specs.declared.item.State.{State}
use Rattle.home_items.specs.declared.item.State.TheVariants.{Start as Begins, Rest as Rests, Kept}
use Rattle.home_items.specs.Items.{parcel_in}
use Rattle.home_items.specs.Parcels.{Delivery}
use Rattle.exec_recv.specs.declared.next.Next.{Next}
use Rattle.exec_recv.specs.Seats.{HandSeat}
use Rattle.exec_recv.specs.Sites.{node_at}
use Rattle.step_parts.specs.Completes.{Completes}
use Rattle.step_parts.specs.Starts.{StartsAgain, StartsChild}
use Rattle.step_parts.specs.Stepping.{Stepping}
use Rattle.step_parts.specs.Takes.{IsOpenWith, TakesBack, TakesState}
use Rattle.exec_bulk.specs.declared.joining.Made.{Made}
use Rattle.exec_bulk.specs.declared.joining.Made.TheVariants.{Want}
use Rattle.exec_bulk.specs.Begins.{BeginsParts}
use Rattle.exec_bulk.specs.Made.{IsFrontMade}
use Rattle.exec_bulk.specs.Opens.{HaveDelivered}
use Rattle.exec_bulk.specs.Rows.{first_part, numbers_in, parts_for}

module _ (board : Board Blueprint) (t : Stepping) where
  -- it completed as its child did
  abbrev pub Passes : Delivery → Next → HandSeat → HandSeat → Type 0
  Passes parcel next old new = Completes board t parcel.completion parcel.saw next old new

  -- Its child has completed with this. Where that is a row with numbers, the row's parts began;
  -- else it completed with the same.
  pub record CutsRow (parcel : Delivery) (next : Next) (old new : HandSeat) : Type 0 where
    pub cuts : 1 ≤ length (numbers_in parcel.completion) →
        BeginsParts board t parcel next old new
    pub passes : numbers_in parcel.completion ≡ [] → Passes parcel next old new

  -- It keeps no numbers: it went on by what its child completed with, or started it.
  pub record GoesOnBack (child : ℕ) (next : Next) (old new : HandSeat) : Type 0 where
    pub answer : Option Delivery
    pub middle : HandSeat
    pub takes : TakesBack board t child answer old middle
    pub cuts : (parcel : Delivery) → answer ≡ Some parcel → CutsRow parcel next middle new
    pub again : answer ≡ None → StartsAgain board t child next middle new

  -- It completed with want of memory: where this is so, there was none for this completion, which
  -- doesn't stand in place.
  pub record Wants (able : Type 0) (done : Completion) (next : Next) (old new : HandSeat) :
      Type 0 where
    pub large : able → CompletesInPlace done → ⊥
    pub completes : Completes board t NoMemory false next old new

  -- It completed with this; or a part wants memory, or there was none for this.
  abbrev pub CompletesOr : Type 0 → Completion → Bool → Next → HandSeat → HandSeat → Type 0
  CompletesOr able done saw next old new =
      Completes board t done saw next old new ⊎ Wants able done next old new

  -- Whatever job and row these were made of, it completed with what the job makes of the row.
  abbrev pub EndsAsMade : Made → Bool → Next → HandSeat → HandSeat → Type 0
  EndsAsMade made saw next old new =
      (job : Job) (whole : List ℤ) → IsFrontMade made job whole (parts_for whole) →
      CompletesOr (made ≢ Want) (row_ending (each_of job 0 whole)) saw next old new

module _ (board : Board Blueprint) (t : Stepping) (child : ℕ) where
  -- In the homes of the parts that were begun for these numbers lie completions other than want of
  -- memory.
  pub record HaveAllDelivered (numbers : List ℤ) (hand : HandSeat) : Type 0 where
    pub inside : Item
    pub kid : ℕ → Option Item
    pub opened : IsOpenWith board t inside kid hand
    pub have : HaveDelivered (first_part t.name.node) (parts_for numbers) kid

  -- It keeps this of its child. Where that is a row with numbers it completed with what its job
  -- makes of the row; else, which doesn't come, it went on by its child.
  pub record JoinsParts (next : Next) (old new : HandSeat) : Type 0 where
    pub kept : Delivery
    pub kept_is : (inside : Item) (kid : ℕ → Option Item) → IsOpenWith board t inside kid old →
        parcel_in inside ≡ Some kept
    pub middle : HandSeat
    pub ends : (job : Job) → node_at board t.name ≡ Some (Bulk child job) →
        1 ≤ length (numbers_in kept.completion) →
        CompletesOr board t (HaveAllDelivered (numbers_in kept.completion) old)
        (bulk_of job kept.completion) kept.saw next middle new
    pub goes_on : numbers_in kept.completion ≡ [] → GoesOnBack board t child next middle new

-- First it starts its child; then it goes on by what the child completed with; and last, where it
-- keeps that, by its parts.
pub record StepsBulk (board : Board Blueprint) (x : Name) (next : Next) (old new : HandSeat) :
    Type 0 where
  pub child : ℕ
  pub job : Job
  pub node_is : node_at board x ≡ Some (Bulk child job)
  pub taken : Stepping
  pub state : State
  pub up : HandSeat
  pub takes : TakesState board x taken state old up
  pub starts : state ≡ Begins → StartsChild board taken child next up new
  pub goes_on : state ≡ Rests → GoesOnBack board taken child next up new
  pub joins : state ≡ Kept → JoinsParts board taken child next up new
