-- What comes of an `ahead` that was parked and is served (P3149, spawn_future).
use Rattle.std.specs.Prelude.{◌≡◌, ◌⊎◌, ℕ, true, false, List, Option, Some, None, IsSome, is_some}
use Rattle.exec_value.specs.declared.outcome.Completion.TheVariants.{NoMemory}
use Rattle.exec_value.specs.Place.{AreInPlace}
use Rattle.plan_rules.specs.Images.{value_data}
use Rattle.plan_shape.specs.Blueprint.{Blueprint}
use Rattle.table_steps.specs.Views.{Board, IsHandOf, IsPlaceIn, knows}
use Rattle.home_items.specs.Entries.{args_of}
use Rattle.home_items.specs.Parcels.{Delivery}
use Rattle.exec_recv.specs.Seats.{HandSeat}
use Rattle.exec_recv.specs.Sites.{IsSite}
use Rattle.step_parts.specs.Stepping.{Stepping}
use Rattle.step_parts.specs.Takes.{Keeps}
use Rattle.node_walks.specs.declared.completing.Ended.{Ended}
use Rattle.serve_ahead.specs.declared.taking.AheadAt.{AheadAt}
use Rattle.serve_ahead.specs.declared.taking.Served.{Served}
use Rattle.serve_ahead.specs.Ends.{BeginsSecond, Joins, PutsBack, Serves}
use Rattle.serve_ahead.specs.Spawned.{spawned_start}
use Rattle.node_walks.specs.Resting.{IsAtRest}
use Rattle.serve_ahead.specs.Takes.{IsAheadIn, TakesAhead, MissesAhead}
use Rattle.spawn_future.specs.declared.future.Future.{Future}
use Rattle.spawn_future.specs.declared.spawning.SpawnFault.{SpawnFault}
use Rattle.spawn_future.specs.Polls.{Abandons, AbandonsNone, EndsSlotAt, StillWaits}
use Rattle.spawn_future.specs.Slots.{WaitsAt, WaitsNowhere}
use Rattle.spawn_future.specs.Spawns.{Spawns, Refuses}

-- Hand 0 is at rest, and may look whether the `ahead` is parked.
pub record MayServeAgain (board : Board Blueprint) (at : AheadAt) (hand : HandSeat) : Type 0 where
  pub of : IsHandOf board hand
  pub site : IsSite board
  pub ahead : IsAheadIn board at
  pub place : IsPlaceIn board at.name
  pub first : (knows hand).number ≡ 0
  pub rests : IsAtRest (knows hand)

-- It is taken once more, while its first child's operation runs or was ended.
module _ (board : Board Blueprint) (at : AheadAt) (old new : HandSeat) where
  -- It was taken, and parked again, with what its second child had come to.
  pub record IsParkedWith (IsFound : Option Delivery → Type 0) : Type 0 where
    pub served : Served
    pub found : IsFound served.second
    pub held : HandSeat
    pub took : TakesAhead board at old held served
    pub back : PutsBack board served held new

  -- It goes on later: it wasn't taken, or was parked again, since this was found of its second
  -- child. Neither comes.
  abbrev pub GoesOnLater : (Option Delivery → Type 0) → Type 0
  GoesOnLater IsFound = MissesAhead board at old.me new.me ⊎ IsParkedWith IsFound

  -- It was taken, and its second child started.
  pub record StartsSecond : Type 0 where
    pub served : Served
    pub none : served.second ≡ None
    pub held : HandSeat
    pub took : TakesAhead board at old held served
    pub begins : BeginsSecond board served.taken at.second held new

  -- It was taken, and completed by what both children came to.
  pub record CompletesBy (ended : Ended) : Type 0 where
    pub served : Served
    pub parcel : Delivery
    pub second : served.second ≡ Some parcel
    pub held : HandSeat
    pub took : TakesAhead board at old held served
    pub joins : Joins board served.taken parcel ended held new

  -- so it was, unless its second child had completed
  abbrev pub StartsOrLater : Type 0
  StartsOrLater = StartsSecond ⊎ GoesOnLater (λ second. IsSome second)

  -- so it did, unless its second child hadn't completed
  abbrev pub CompletesOrLater : Ended → Type 0
  CompletesOrLater ended = CompletesBy ended ⊎ GoesOnLater (λ second. second ≡ None)

-- It is at hand.
module _ (board : Board Blueprint) (at : AheadAt) (t : Stepping)
    (old new : List (Option Future)) (hand hand' : HandSeat) where
  -- Its second child hasn't begun. Its arguments were copied, it was parked again, and its first
  -- child's operation spawned with these, its record number and `asked`; and then it was taken
  -- again, and its second child started.
  pub record SpawnsFirst : Type 0 where
    pub copied : HandSeat
    pub keeps : Keeps board t hand copied
    pub parked : HandSeat
    pub back : PutsBack board (record { taken = t; second = None }) copied parked
    pub spawned : HandSeat
    pub spawns : Spawns board at.name (spawned_start at.first t.start) old new parked spawned
    pub goes_on : StartsOrLater board at spawned hand'

  -- Its first child's operation was spawned before: its second child was started.
  pub record WasSpawned : Type 0 where
    pub slot : ℕ
    pub future : Future
    pub waits : WaitsAt at.name old slot future
    pub slots : new ≡ old
    pub begins : BeginsSecond board t at.second hand hand'

  -- It was parked again: there was no memory for the arguments, which don't stand in place; or the
  -- spawn was refused, for this cause.
  pub record PutsOff : Type 0 where
    pub copied : HandSeat
    pub keeps : Keeps board t hand copied
    pub parked : HandSeat
    pub back : PutsBack board (record { taken = t; second = None }) copied parked
    pub slots : new ≡ old
    pub unowned : WaitsNowhere at.name old
    pub cause : ((AreInPlace (args_of t.start) → ⊥) × (hand' ≡ parked))
        ⊎ ((fault : SpawnFault)
        × Refuses board (spawned_start at.first t.start) old parked hand' fault)

  abbrev pub SpawnsOrPutsOff : Type 0
  SpawnsOrPutsOff = SpawnsFirst ⊎ PutsOff

  abbrev pub StartsBoth : Type 0
  StartsBoth = WasSpawned ⊎ SpawnsOrPutsOff

-- It is at hand, and its second child has completed with this.
module _ (board : Board Blueprint) (at : AheadAt) (t : Stepping) (parcel : Delivery)
    (old new : List (Option Future)) (hand hand' : HandSeat) where
  -- That has no value: its first child's operation was abandoned, where it waited for that, and it
  -- completed so.
  pub record FailsWithSecond : Type 0 where
    pub fails : is_some (value_data parcel.completion) ≡ false
    pub abandons : Abandons at.name old new ⊎ AbandonsNone at.name old new
    pub done : Serves board t parcel.completion parcel.saw hand hand'

  -- It has a value, and no operation of its first child is kept, which doesn't come.
  pub record HasNoFirst : Type 0 where
    pub value : is_some (value_data parcel.completion) ≡ true
    pub nowhere : WaitsNowhere at.name old
    pub slots : new ≡ old
    pub done : Serves board t NoMemory false hand hand'

-- It is at hand with a value of its second child, and its first child's operation is kept.
module _ (board : Board Blueprint) (at : AheadAt) (served : Served)
    (old new : List (Option Future)) (hand hand' : HandSeat) where
  -- It was parked again, since that operation wasn't complete.
  pub record AwaitsFirst : Type 0 where
    pub parked : HandSeat
    pub back : PutsBack board served hand parked
    pub waits : StillWaits board at.name old new parked.me hand'.me

  -- It was parked again, and the operation ended; then it was taken again, and completed.
  pub record JoinsFirst : Type 0 where
    pub parked : HandSeat
    pub back : PutsBack board served hand parked
    pub slot : ℕ
    pub future : Future
    pub waits : WaitsAt at.name old slot future
    pub ended : Ended
    pub emptied : HandSeat
    pub ends : EndsSlotAt board slot future.block old new parked.me emptied.me ended
    pub goes_on : CompletesOrLater board at emptied hand' ended

  abbrev pub AwaitsOrJoins : Type 0
  AwaitsOrJoins = AwaitsFirst ⊎ JoinsFirst

-- By what its second child has completed with.
abbrev pub EndsBoth : Board Blueprint → AheadAt → Stepping → List (Option Future)
    → List (Option Future) → HandSeat → HandSeat → Delivery → Type 0
EndsBoth board at t old new hand hand' parcel =
    FailsWithSecond board at t parcel old new hand hand'
    ⊎ (HasNoFirst board at t parcel old new hand hand'
    ⊎ ((is_some (value_data parcel.completion) ≡ true)
    × AwaitsOrJoins board at (record { taken = t; second = Some parcel }) old new hand hand'))

-- By whether its second child has completed.
abbrev pub GoesOnFrom : Board Blueprint → AheadAt → Served → List (Option Future)
    → List (Option Future) → HandSeat → HandSeat → Type 0
GoesOnFrom board at served old new hand hand' =
    ((served.second ≡ None) × StartsBoth board at served.taken old new hand hand')
    ⊎ ((parcel : Delivery) × (served.second ≡ Some parcel)
    × EndsBoth board at served.taken old new hand hand' parcel)

-- It was taken where it was parked, and went on from there.
pub record ServesAhead (board : Board Blueprint) (at : AheadAt) (old new : List (Option Future))
    (hand hand' : HandSeat) : Type 0 where
  pub served : Served
  pub held : HandSeat
  pub took : TakesAhead board at hand held served
  pub goes_on : GoesOnFrom board at served old new held hand'
