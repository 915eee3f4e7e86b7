-- How a step takes up its node, and what it has then.
use Rattle.std.specs.Prelude.{◌≡◌, ◌≢◌, ⊤, ℕ, Bool, true, false, List, ◌∷◌, Contains, Option, Some, None, is_some, IfSome}
use Rattle.std.specs.Option.{option_map, option_map_or}
use Rattle.life_rules.specs.declared.event.Name.{Name}
use Rattle.life_rules.specs.declared.words.CallbackPhase.TheVariants.{Never}
use Rattle.node_tree.specs.Tree.{is_child, has_source, is_unstoppable}
use Rattle.plan_rules.specs.declared.node.Node.{Node}
use Rattle.plan_shape.specs.Blueprint.{Blueprint}
use Rattle.table_rules.specs.declared.view.Held.{Held}
use Rattle.table_steps.specs.Views.{Board, Stays}
use Rattle.table_steps.specs.Seats.{Seated, view_of}
use Rattle.table_steps.specs.Slots.{held_at, kids_of}
use Rattle.op_slot.specs.Tends.{put_at}
use Rattle.home_items.specs.declared.entry.Entry.{Entry}
use Rattle.home_items.specs.declared.item.Item.{Item}
use Rattle.home_items.specs.declared.item.State.{State}
use Rattle.home_items.specs.declared.item.State.TheVariants.{Start as Begins}
use Rattle.home_items.specs.Bounds.{least_of}
use Rattle.home_items.specs.Contents.{Start, Rest, Done}
use Rattle.home_items.specs.Entries.{drawn_of}
use Rattle.home_items.specs.Fits.{IsItemOf, SawNoRequest}
use Rattle.home_items.specs.Items.{is_start, parcel_in, saw_in, state_of, without_parcel}
use Rattle.home_items.specs.Parcels.{Delivery, IsDelivery}
use Rattle.home_items.specs.Starts.{IsStart}
use Rattle.exec_recv.specs.Seats.{HandSeat}
use Rattle.exec_recv.specs.Sites.{IsSite}
use Rattle.exec_recv.specs.Steppable.{CanStep}
use Rattle.start_laws.specs.Holding.{IsFromBelow}
use Rattle.start_laws.specs.Nodes.{plain_children, AwaitsOne}
use Rattle.step_parts.specs.declared.found.Found.{Found}
use Rattle.step_parts.specs.declared.found.Found.TheVariants.{Begun, Back, Again}
use Rattle.step_parts.specs.declared.taken.TakenUp.{TakenUp}
use Rattle.step_parts.specs.Heard.{has_heard, MaySee}
use Rattle.step_parts.specs.Midway.{IsMidway, Ready, KeepsOthers, KeepsReady, ChangesHomes}
use Rattle.step_parts.specs.Stepping.{Stepping}

-- the node has no child, or this one alone
pub record IsOnlyChild (board : Board Blueprint) (x : Name) (child : Option ℕ) : Type 0 where
  pub is : (n : ℕ) → child ≡ Some n → is_child board.frame.tree x.node n ≡ true
  pub only : (n : ℕ) → is_child board.frame.tree x.node n ≡ true → child ≡ Some n

-- The node awaits its children one at a time, and this one, where it has any, runs with its
-- arguments.
abbrev pub TakesOne : Option Node → Option ℕ → Type 0
TakesOne None child = ⊥
TakesOne (Some node) child = AwaitsOne node × IfSome child (Contains (plain_children node))

-- the hand has just begun x: its callback was never registered, and no child has begun
pub record HasJustBegun (board : Board Blueprint) (x : Name) (m : Seated Item Entry) : Type 0 where
  pub held : Held Entry
  pub holds : held_at (view_of m) x ≡ Some held
  pub named : held.named ≡ 0
  pub phase : held.phase ≡ Some Never
  pub idle : held.idle ≡ kids_of board.frame.tree x.node

-- the node has begun nothing yet
abbrev pub is_new : Found → Bool
is_new Begun = true
is_new found = false

-- the child's parcel
abbrev pub parcel_of : Found → Option Delivery
parcel_of Begun = None
parcel_of (Back parcel) = Some parcel
parcel_of (Again kept) = kept

-- the parcel that lay in the child's home
abbrev pub below_of : Found → Option Delivery
below_of (Back parcel) = Some parcel
below_of found = None

-- what lay in the node's own, where nothing lay in the child's
abbrev pub LayAs : Found → List Entry → Item → Type 0
LayAs Begun start item = item ≡ Start start
LayAs (Back parcel) start item = ⊤
LayAs (Again kept) start item = item ≡ Rest start kept

module _ (board : Board Blueprint) (t : Stepping) where
  -- The step goes on: this lies in the homes of its node and of the node's children, the item has
  -- the node's start, and what the hand has beside the node is as it was when the step began.
  pub record IsOpenWith (inside : Item) (kid : ℕ → Option Item) (hand : HandSeat) : Type 0 where
    pub site : IsSite board
    pub stays : Stays board t.from hand
    pub start_is : IsStart t.start
    pub beside : KeepsOthers board t.name t.from.me hand.me
    pub midway : IsMidway board t.name t.start inside (least_of inside) kid hand.me

  pub record IsOpen (hand : HandSeat) : Type 0 where
    pub inside : Item
    pub kid : ℕ → Option Item
    pub is : IsOpenWith inside kid hand

  -- so, and the homes of the children are empty
  pub record IsTaken (hand : HandSeat) : Type 0 where
    pub site : IsSite board
    pub stays : Stays board t.from hand
    pub start_is : IsStart t.start
    pub beside : KeepsOthers board t.name t.from.me hand.me
    pub ready : Ready board t.name t.start 0 hand.me

  -- what a call within the step keeps of it
  pub record Keeps (old new : HandSeat) : Type 0 where
    pub stays : Stays board old new
    pub ready : KeepsReady board t.name old.me new.me

  -- the node's child has completed with this parcel
  pub record HasParcel (m : Seated Item Entry) (parcel : Delivery) : Type 0 where
    pub ready : Ready board t.name t.start 1 m
    pub from : IsFromBelow t.start parcel (has_heard board t.name m)

  -- The parcel of the child n of x, which has this start: its own goes on with it. Where x has no
  -- stop source, it saw no request that the hand hasn't heard of, and where x is unstoppable none.
  pub record IsFoundBelow (n : ℕ) (m : Seated Item Entry) (parcel : Delivery) : Type 0 where
    pub lawful : IsDelivery parcel
    pub entry : Entry
    pub below : parcel.start ≡ entry ∷ t.start
    pub of : IsItemOf (Done parcel) n
    pub draws : option_map_or (λ (e : Held Entry). e.lot) (held_at (view_of m) t.name) None
        ≡ Some (drawn_of parcel.start)
    pub calmly : has_source board.frame.tree t.name.node ≡ false →
        has_heard board t.name m ≡ false → SawNoRequest (Done parcel)
    pub shelters : has_source board.frame.tree t.name.node ≡ false →
        is_unstoppable board.frame.tree t.name.node ≡ true → SawNoRequest (Done parcel)

  -- The hand took what lay in the home of the child n: the child's parcel, or nothing.
  pub record TakesChild (n : ℕ) (answer : Option Delivery) (old new : HandSeat) : Type 0 where
    pub keeps : ChangesHomes board t.name old new
    pub lay : (inside : Item) (kid : ℕ → Option Item) → IsOpenWith inside kid old →
        kid n ≡ option_map Done answer
    pub left : (inside : Item) (kid : ℕ → Option Item) → IsOpenWith inside kid old →
        IsOpenWith inside (put_at n None kid) new
    pub found : IsOpen old → IfSome answer (IsFoundBelow n new.me)

  -- The hand took what lay in the home of the child n, and gathered it where it was a parcel.
  pub record GathersChild {A : Type 0} (adds : A → A → Delivery → Type 0) (n : ℕ)
      (before after : A) (found : Bool) (old new : HandSeat) : Type 0 where
    pub answer : Option Delivery
    pub takes : TakesChild n answer old new
    pub found_is : found ≡ is_some answer
    pub gathered : IfSome answer (adds before after)
    pub stays : answer ≡ None → after ≡ before

  -- The hand took what the node kept of its child.
  pub record TakesKept (answer : Option Delivery) (old new : HandSeat) : Type 0 where
    pub keeps : ChangesHomes board t.name old new
    pub lay : (inside : Item) (kid : ℕ → Option Item) → IsOpenWith inside kid old →
        parcel_in inside ≡ answer
    pub left : (inside : Item) (kid : ℕ → Option Item) → IsOpenWith inside kid old →
        IsOpenWith (without_parcel inside) kid new
    pub lawful : IfSome answer IsDelivery

module _ (board : Board Blueprint) (t : Stepping) where
  -- So it took what lay in the home of the only child of a node that had begun: the homes of the
  -- children are empty, and the node's own is as it was.
  pub record TakesBack (n : ℕ) (answer : Option Delivery) (old new : HandSeat) : Type 0 where
    pub keeps : ChangesHomes board t.name old new
    pub taken : IsTaken board t new
    pub parcel : IfSome answer (HasParcel board t new.me)
    pub lay : (inside : Item) (kid : ℕ → Option Item) → IsOpenWith board t inside kid old →
        kid n ≡ option_map Done answer
    pub own : (inside : Item) (kid : ℕ → Option Item) → IsOpenWith board t inside kid old →
        IsOpenWith board t inside (λ _. None) new

-- What is found of a node that has begun, which has this child alone, or none: what lay in the
-- child's home, or else what the node kept. It keeps nothing any more.
pub record TakesFound (board : Board Blueprint) (t : Stepping) (child : Option ℕ) (found : Found)
    (old new : HandSeat) : Type 0 where
  pub taken : IsTaken board t new
  pub begun : is_new found ≡ false
  pub childless : child ≡ None → below_of found ≡ None
  pub lay : (inside : Item) (kid : ℕ → Option Item) → IsOpenWith board t inside kid old →
      (n : ℕ) → child ≡ Some n → kid n ≡ option_map Done (below_of found)
  pub own : (inside : Item) (kid : ℕ → Option Item) → IsOpenWith board t inside kid old →
      is_start inside ≡ false → LayAs found t.start inside
  pub parcel : (inside : Item) (kid : ℕ → Option Item) → IsOpenWith board t inside kid old →
      IsItemOf inside t.name.node → MaySee board t.name (saw_in inside) old.me →
      IfSome (parcel_of found) (HasParcel board t new.me)

-- The step of x began here and took up x, of which this is how far it has come. One that has its
-- start has just begun.
pub record TakesState (board : Board Blueprint) (x : Name) (taken : Stepping) (state : State)
    (old new : HandSeat) : Type 0 where
  pub name_is : taken.name ≡ x
  pub from_is : taken.from ≡ old
  pub keeps : ChangesHomes board x old new
  pub opened : (can : CanStep board x old.me) → IsOpenWith board taken can.item can.kid new
  pub state_is : (can : CanStep board x old.me) → state ≡ state_of can.item
  pub of : (can : CanStep board x old.me) → IsItemOf can.item x.node
  pub saw : (can : CanStep board x old.me) → MaySee board x (saw_in can.item) new.me
  pub fresh : (can : CanStep board x old.me) → is_start can.item ≡ true →
      IsTaken board taken new
  pub begun : (can : CanStep board x old.me) → is_start can.item ≡ true →
      HasJustBegun board x new.me

-- The step of x began here, and took up x, which has this child alone, or none.
pub record TakesUp (board : Board Blueprint) (x : Name) (child : Option ℕ) (up : TakenUp)
    (old new : HandSeat) : Type 0 where
  pub name_is : up.taken.name ≡ x
  pub from_is : up.taken.from ≡ old
  pub is : IsTaken board up.taken new
  pub parcel : IfSome (parcel_of up.found) (HasParcel board up.taken new.me)
  pub begun : is_new up.found ≡ true → HasJustBegun board up.taken.name new.me
  pub childless : child ≡ None → below_of up.found ≡ None
  pub own : (can : CanStep board x old.me) → LayAs up.found up.taken.start can.item
  pub lay : (can : CanStep board x old.me) (n : ℕ) → child ≡ Some n →
      can.kid n ≡ option_map Done (below_of up.found)

-- The step of x, which has this child alone, began, took up x, which had begun, and took what the
-- child completed with.
pub record TakesBegun (board : Board Blueprint) (x : Name) (n : ℕ) (taken : Stepping)
    (answer : Option Delivery) (old new : HandSeat) : Type 0 where
  pub state : State
  pub up : HandSeat
  pub takes : TakesState board x taken state old up
  pub begun : state ≢ Begins
  pub back : TakesBack board taken n answer up new

-- So it did of one that has begun nothing yet.
abbrev pub TakesNew : Board Blueprint → Name → Stepping → HandSeat → HandSeat → Type 0
TakesNew board x taken old new = TakesState board x taken Begins old new
