-- What is read of a part of a plan file: a value, or what is wrong with it.
use Rattle.std.specs.Prelude.{◌≡◌, ⊤, Bool, ◌||◌, Option, Some, None}
use Rattle.plan_parts.specs.declared.reading.Faults.{Faults}
use Rattle.plan_parts.specs.declared.reading.Reading.{Reading}
use Rattle.plan_parts.specs.declared.reading.Reading.TheVariants.{Good, Bad}
use Rattle.plan_parts.specs.declared.reading.TheConstants.{NAME_FAULT}

-- the faults of both
abbrev pub both : Faults → Faults → Faults
both f g = record { form = f.form || g.form; name = f.name || g.name; limit = f.limit || g.limit }

-- something is wrong
abbrev pub any_fault : Faults → Bool
any_fault f = f.form || f.name || f.limit

-- a fact of the value, where one was read
abbrev pub IfGood : {A : Type 0} → Reading A → (A → Type 0) → Type 0
IfGood (Good a) P = P a
IfGood (Bad faults) P = ⊤

-- a reading with these faults beside its own
abbrev pub blamed : {A : Type 0} → Faults → Reading A → Reading A
blamed faults (Good a) = Bad faults
blamed faults (Bad own) = Bad (both faults own)

-- what a name stands for; one that isn't known is a fault
abbrev pub known : {A : Type 0} → Option A → Reading A
known (Some a) = Good a
known None = Bad NAME_FAULT

-- what is made of the value that was read
abbrev pub mapped : {A B : Type 0} → (A → B) → Reading A → Reading B
mapped f (Good a) = Good (f a)
mapped f (Bad faults) = Bad faults

-- a call made the value of the one that was read, and what is wrong stays wrong
abbrev pub IsMapped : {A B : Type 0} → (A → B → Type 0) → Reading A → Reading B → Type 0
IsMapped made (Good a) (Good b) = made a b
IsMapped made (Good a) (Bad faults) = ⊥
IsMapped made (Bad faults) reading = reading ≡ Bad faults

-- both values, or what is wrong with the two
abbrev pub paired : {A B : Type 0} → Reading A → Reading B → Reading (A × B)
paired (Good a) (Good b) = Good (a, b)
paired (Good a) (Bad faults) = Bad faults
paired (Bad faults) (Good b) = Bad faults
paired (Bad faults) (Bad others) = Bad (both faults others)
