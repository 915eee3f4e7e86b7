-- What the parcels of a `when_all`'s children come to, one after the other.
use Rattle.std.specs.Prelude.{◌≡◌, ◌≢◌, ◌&&◌, ◌||◌, not, ℕ, zero, suc, ◌<◌, Bool, true, false, [], Option, Some, None, Result, Err, IfOk, OnOk, IfErr}
use Rattle.exec_value.specs.declared.outcome.Completion.{Completion}
use Rattle.exec_value.specs.declared.outcome.Completion.TheVariants.{Value, NoMemory}
use Rattle.home_items.specs.Parcels.{Delivery}
use Rattle.node_images.specs.Joined.{Tells}
use Rattle.node_images.specs.declared.join.NoRoom.{NoRoom}
use Rattle.plan_rules.specs.Settle.{and_then}
use Rattle.start_laws.specs.AllEnds.{first_ends, late_ends, all_ends, some_saw, some_first, saw_together, all_saw}
use Rattle.exec_all.specs.declared.joining.Joining.{Joining}

abbrev pub is_want : Completion → Bool
is_want NoMemory = true
is_want done = false

-- some of the first n children want memory
abbrev pub some_want : (ℕ → Delivery) → ℕ → Bool
some_want ends zero = false
some_want ends (suc n) = some_want ends n || is_want (ends n).completion

abbrev pub NoneWants : (ℕ → Delivery) → ℕ → Type 0
NoneWants ends n = (i : ℕ) → i < n → (ends i).completion ≢ NoMemory

-- some of the first n saw a request, and some failed without having seen one
pub record Sees (ends : ℕ → Delivery) (n : ℕ) (saw first : Bool) : Type 0 where
  pub saw_is : saw ≡ some_saw ends n
  pub first_is : first ≡ some_first ends n

-- those that failed late complete with this; with no data, where there are none
abbrev pub TellsLate : Option (Result Completion NoRoom) → Completion → Type 0
TellsLate None c = c ≡ Value []
TellsLate (Some late) c = Tells late c

-- What the first n of these parcels come to: the two walks apart, of which the second begins with
-- no data.
pub record IsJoined (joining : Joining) (ends : ℕ → Delivery) (n : ℕ) : Type 0 where
  pub front : Tells joining.front (first_ends ends n)
  pub late : TellsLate joining.late (late_ends ends n (Value []))
  pub sees : Sees ends n joining.saw joining.first
  pub want : joining.want ≡ some_want ends n

-- a parcel was noted that saw a request, failed or wants memory
pub record Notes (saw failed want : Bool) (before after : Joining) : Type 0 where
  pub front : after.front ≡ before.front
  pub late : after.late ≡ before.late
  pub saw_is : after.saw ≡ (before.saw || saw)
  pub first_is : after.first ≡ (before.first || (not saw && failed))
  pub want_is : after.want ≡ (before.want || want)

-- this was joined to those that failed late, and nothing else changed
pub record AddsLate (done : Completion) (before after : Joining) : Type 0 where
  pub late : (c : Completion) → TellsLate before.late c → TellsLate after.late (and_then c done)
  pub rest : after ≡ record before { late = after.late }

-- the parcel was joined to those before it
abbrev pub Adds : Joining → Joining → Delivery → Type 0
Adds before after parcel =
    (ends : ℕ → Delivery) (n : ℕ) → ends n ≡ parcel → IsJoined before ends n →
    IsJoined after ends (suc n)

-- the answer is what all saw, where this is what they complete with
abbrev pub TellsSeen : Completion → Bool → Bool → Bool → Type 0
TellsSeen done saw first answer =
    (ends : ℕ → Delivery) (n : ℕ) → Sees ends n saw first → answer ≡ saw_together done ends n

-- what the first n complete with together was put in its place; or it is values for which there is
-- no room
pub record PutsAll (ends : ℕ → Delivery) (n : ℕ) (done : Completion)
    (result : Result (Unit {0}) NoRoom) : Type 0 where
  pub ok : OnOk result (done ≡ all_ends ends n)
  pub err : IfErr result (λ why. Tells (Err why) (all_ends ends n))

-- so it was, where the two walks make these, and none wants memory
abbrev pub PutsBoth : Result Completion NoRoom → Option (Result Completion NoRoom) → Completion →
    Result (Unit {0}) NoRoom → Type 0
PutsBoth front late done result =
    (ends : ℕ → Delivery) (n : ℕ) → NoneWants ends n → Tells front (first_ends ends n) →
    TellsLate late (late_ends ends n (Value [])) → PutsAll ends n done result

-- what the first n complete with together was put in its place, and the answer is whether a request
-- was seen; or it is values for which there is no room
pub record TellsAll (ends : ℕ → Delivery) (n : ℕ) (done : Completion)
    (result : Result Bool NoRoom) : Type 0 where
  pub ok : IfOk result (λ saw. (done ≡ all_ends ends n) × (saw ≡ all_saw ends n))
  pub err : IfErr result (λ why. Tells (Err why) (all_ends ends n))

-- this and the answer are what all come to, none of which wants memory
abbrev pub Finishes : Joining → Completion → Result Bool NoRoom → Type 0
Finishes joining done result =
    (ends : ℕ → Delivery) (n : ℕ) → IsJoined joining ends n → NoneWants ends n →
    TellsAll ends n done result
