-- Lists of calls of a lawful backend.
use Rattle.std.specs.Prelude.{◌≡◌, ℕ, ◌+◌, List, [], ◌∷◌, ◌++◌, count_by}
use Rattle.life_rules.specs.declared.event.Name.{Name}
use Rattle.life_rules.specs.Views.{same}
use Rattle.pool_backends.specs.declared.order.Order.{Order}
use Rattle.pool_backends.specs.declared.order.Order.TheVariants.{Fifo}
use Rattle.pool_backends.specs.Stocks.{Stock, Arranges, Submits, HandsBack, HandsOut, HasNone}

-- A call, and what it came to.
pub data Call : Type 0 where
  Arranged : Order → Call
  Submitted : Name → Call
  HandedBack : Name → Call
  HandedOut : Name → Call
  FoundNone : Call

abbrev pub Does : Call → Stock → Stock → Type 0
Does (Arranged order) old new = Arranges order old new
Does (Submitted name) old new = Submits name old new
Does (HandedBack name) old new = HandsBack name old new name
Does (HandedOut name) old new = HandsOut old new name
Does FoundNone old new = HasNone old new

-- these calls, one after the other
abbrev pub DoesAll : List Call → Stock → Stock → Type 0
DoesAll [] old new = new ≡ old
DoesAll (call ∷ calls) old new =
    (between : Stock) × Does call old between × DoesAll calls between new

-- the names that were submitted and not handed back, in the order of the calls
abbrev pub came_in : List Call → List Name
came_in [] = []
came_in (Arranged order ∷ calls) = came_in calls
came_in (Submitted name ∷ calls) = name ∷ came_in calls
came_in (HandedBack name ∷ calls) = came_in calls
came_in (HandedOut name ∷ calls) = came_in calls
came_in (FoundNone ∷ calls) = came_in calls

-- the names that were handed out
abbrev pub went_out : List Call → List Name
went_out [] = []
went_out (Arranged order ∷ calls) = went_out calls
went_out (Submitted name ∷ calls) = went_out calls
went_out (HandedBack name ∷ calls) = went_out calls
went_out (HandedOut name ∷ calls) = name ∷ went_out calls
went_out (FoundNone ∷ calls) = went_out calls

-- no call sets the order
abbrev pub KeepsOrder : List Call → Type 0
KeepsOrder [] = Unit {0}
KeepsOrder (Arranged order ∷ calls) = ⊥
KeepsOrder (Submitted name ∷ calls) = KeepsOrder calls
KeepsOrder (HandedBack name ∷ calls) = KeepsOrder calls
KeepsOrder (HandedOut name ∷ calls) = KeepsOrder calls
KeepsOrder (FoundNone ∷ calls) = KeepsOrder calls

-- how often the name stands in the list
abbrev pub times : Name → List Name → ℕ
times name names = count_by (λ other. same name other) names

abbrev pub NamesGoOutOnce : Type 0
NamesGoOutOnce =
    (calls : List Call) (old new : Stock) → DoesAll calls old new → (name : Name) →
    times name (went_out calls) + times name new.pending
    ≡ times name old.pending + times name (came_in calls)

abbrev pub FirstComeFirstOut : Type 0
FirstComeFirstOut =
    (calls : List Call) (old new : Stock) → DoesAll calls old new →
    old.arranged ≡ Fifo → KeepsOrder calls →
    went_out calls ++ new.pending ≡ old.pending ++ came_in calls
