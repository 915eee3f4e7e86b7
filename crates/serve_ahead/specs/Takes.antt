-- What a hand has of an `ahead` that it took where that was parked.
use Rattle.std.specs.Prelude.{◌≡◌, ℕ, true, Option, Some, None, IfSome}
use Rattle.life_rules.specs.declared.event.Name.{Name}
use Rattle.life_rules.specs.declared.event.Resting.TheVariants.{Parked}
use Rattle.plan_rules.specs.declared.node.Node.TheVariants.{Ahead}
use Rattle.plan_shape.specs.Blueprint.{Blueprint}
use Rattle.table_steps.specs.Steps.{control_index}
use Rattle.table_steps.specs.Views.{Board, Stays}
use Rattle.table_steps.specs.Seats.{Seated, view_of}
use Rattle.home_items.specs.declared.entry.Entry.{Entry}
use Rattle.home_items.specs.declared.item.Item.{Item}
use Rattle.home_items.specs.Contents.{Done}
use Rattle.home_items.specs.Items.{parcel_in}
use Rattle.home_items.specs.Parcels.{Delivery}
use Rattle.exec_recv.specs.Asides.{KeepsAside}
use Rattle.exec_recv.specs.Seats.{HandSeat}
use Rattle.exec_recv.specs.Sites.{node_at}
use Rattle.exec_recv.specs.Steppable.{CanStep}
use Rattle.step_parts.specs.Stepping.{Stepping}
use Rattle.step_parts.specs.Takes.{HasParcel, IsTaken}
use Rattle.node_walks.specs.Resting.{IsAtRest, CanGoOn}
use Rattle.exec_recv.specs.Since.{HasMovedSince}
use Rattle.node_walks.specs.Since.{OnlyLooks}
use Rattle.node_walks.specs.Serving.{TakesUp, TakesWord, WasMissed}
use Rattle.serve_ahead.specs.declared.taking.AheadAt.{AheadAt}
use Rattle.serve_ahead.specs.declared.taking.Served.{Served}

-- The plan has this `ahead`, with these children.
abbrev pub IsAheadIn : Board Blueprint → AheadAt → Type 0
IsAheadIn board at = node_at board at.name ≡ Some (Ahead at.first at.second)

-- With this the second child of x has completed: it lay in the child's home, or else in that of x.
pub record FindsSecond (board : Board Blueprint) (x : Name) (second : ℕ) (found : Option Delivery)
    (m : Seated Item Entry) : Type 0 where
  pub keeps : (can : CanStep board x m) → can.kid second ≡ None → parcel_in can.item ≡ found
  pub back : (can : CanStep board x m) (parcel : Delivery) → can.kid second ≡ Some (Done parcel) →
      found ≡ Some parcel

-- The hand has taken up the `ahead`, with which it could go on, and emptied the home of its second
-- child. It has this parcel of that child, or none, and nothing besides.
pub record HasAtHand (board : Board Blueprint) (at : AheadAt) (t : Stepping)
    (second : Option Delivery) (hand : HandSeat) : Type 0 where
  pub name_is : t.name ≡ at.name
  pub ahead : IsAheadIn board at
  pub could : CanGoOn board t.name t.from.me
  pub taken : IsTaken board t hand
  pub parcel : IfSome second (HasParcel board t hand.me)

module _ (board : Board Blueprint) (at : AheadAt) where
  -- It took the `ahead` by a step on its word, which said that it is parked.
  pub record TakesAhead (old new : HandSeat) (served : Served) : Type 0 where
    pub has : HasAtHand board at served.taken served.second new
    pub finds : FindsSecond board at.name at.second served.second served.taken.from.me
    pub stays : Stays board old served.taken.from
    pub took : TakesUp board at.name Parked true old.me served.taken.from.me
    pub before : KeepsAside old.me served.taken.from.me
    pub aside : KeepsAside old.me new.me
    pub moved : HasMovedSince (control_index board at.name) (TakesWord Parked at.name)
        old.me new.me

  -- Its word was read, and didn't say so, and no word was moved.
  pub record MissesAhead (m m' : Seated Item Entry) : Type 0 where
    pub rests : IsAtRest (view_of m')
    pub looks : OnlyLooks m m'
    pub missed : WasMissed board m m' Parked at.name
