-- How a `when_all` joins what its children delivered ([exec.when.all]), in two walks over them:
-- first those with a value, and those that failed without having seen a request; then those that
-- failed and had seen one. So no failure that rests on a request comes before one that doesn't.
use Rattle.std.specs.Prelude.{◌≡◌, ◌≢◌, ◌&&◌, ◌||◌, not, ℕ, zero, suc, ◌<◌, Bool, true, false, List, [], length}
use Rattle.exec_value.specs.declared.outcome.Completion.{Completion}
use Rattle.exec_value.specs.declared.outcome.Completion.TheVariants.{Value, Error, Stopped, NoMemory}
use Rattle.plan_rules.specs.Allowed.{IsFailure}
use Rattle.plan_rules.specs.Settle.{and_then}
use Rattle.home_items.specs.declared.entry.Entry.{Entry}
use Rattle.home_items.specs.Parcels.{Delivery, MayDeliver}
use Rattle.start_laws.specs.AllLaws.{AllDelivered}

abbrev pub is_failure : Completion → Bool
is_failure (Error name) = true
is_failure Stopped = true
is_failure done = false

-- the child failed, and had seen a request; or it failed without
abbrev pub fails_late : Delivery → Bool
fails_late parcel = parcel.saw && is_failure parcel.completion

abbrev pub fails_first : Delivery → Bool
fails_first parcel = not parcel.saw && is_failure parcel.completion

-- one child more, where this walk takes it
abbrev pub joins_where : Bool → Completion → Completion → Completion
joins_where true front done = and_then front done
joins_where false front done = front

-- the first walk over the first n children
abbrev pub first_ends : (ℕ → Delivery) → ℕ → Completion
first_ends ends zero = Value []
first_ends ends (suc n) =
    joins_where (not (fails_late (ends n))) (first_ends ends n) (ends n).completion

-- the second, which begins with what the first gave
abbrev pub late_ends : (ℕ → Delivery) → ℕ → Completion → Completion
late_ends ends zero front = front
late_ends ends (suc n) front =
    joins_where (fails_late (ends n)) (late_ends ends n front) (ends n).completion

-- what all complete with together
abbrev pub all_ends : (ℕ → Delivery) → ℕ → Completion
all_ends ends count = late_ends ends count (first_ends ends count)

-- some of the first n children saw a request; some failed without having seen one
abbrev pub some_saw : (ℕ → Delivery) → ℕ → Bool
some_saw ends zero = false
some_saw ends (suc n) = some_saw ends n || (ends n).saw

abbrev pub some_first : (ℕ → Delivery) → ℕ → Bool
some_first ends zero = false
some_first ends (suc n) = some_first ends n || fails_first (ends n)

-- what all saw together: values that one of them saw a request; a failure that no child failed
-- without
abbrev pub saw_together : Completion → (ℕ → Delivery) → ℕ → Bool
saw_together (Value values) ends count = some_saw ends count
saw_together done ends count = not (some_first ends count)

abbrev pub all_saw : (ℕ → Delivery) → ℕ → Bool
all_saw ends count = saw_together (all_ends ends count) ends count

-- a child failed without having seen a request
abbrev pub FailedFirst : (ℕ → Delivery) → ℕ → Type 0
FailedFirst ends count =
    (j : ℕ) × (j < count) × IsFailure (ends j).completion × ((ends j).saw ≡ false)

-- Where no child wants memory, this may be delivered, and isn't want of memory. Where none was told
-- of a request above, it is unseen: if the children heard of none, and if they heard of one, since
-- a child then failed without.
pub record AllsMayEnd : Type 0 where
  pub may : (start : List Entry) (children : List ℕ) (ends : ℕ → Delivery) →
      AllDelivered start children ends →
      ((i : ℕ) → i < length children → (ends i).completion ≢ NoMemory) →
      MayDeliver start (all_saw ends (length children)) (all_ends ends (length children))
  pub has_memory : (ends : ℕ → Delivery) (count : ℕ) →
      ((i : ℕ) → i < count → (ends i).completion ≢ NoMemory) → all_ends ends count ≢ NoMemory
  pub unseen : (ends : ℕ → Delivery) (count : ℕ) →
      ((i : ℕ) → i < count → (ends i).completion ≢ NoMemory) → (told told_children : Bool) →
      (told_children ≡ false → (i : ℕ) → i < count → (ends i).saw ≡ false) →
      (told_children ≡ true → told ≡ false → FailedFirst ends count) →
      told ≡ false → all_saw ends count ≡ false
