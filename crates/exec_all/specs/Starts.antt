-- The arguments with which the children of a `when_all` begin: copies of its own.
use Rattle.std.specs.Prelude.{◌≡◌, ℕ, suc, Bool, true, false, List, [], ◌∷◌, length, All}
use Rattle.exec_value.specs.declared.data.Datum.{Datum}
use Rattle.exec_value.specs.declared.data.Datum.TheVariants.{Row}
use Rattle.exec_all.specs.declared.starts.Copies.{Copies}
use Rattle.exec_all.specs.declared.starts.Copies.TheVariants.{Light, Made}

-- copies of the data want no memory: there are none, or it is one and no row
abbrev pub is_light : List Datum → Bool
is_light [] = true
is_light (Row numbers ∷ []) = false
is_light (datum ∷ []) = true
is_light values = false

-- so many copies of these data
pub record AreCopies (values : List Datum) (count : ℕ) (made : List (List Datum)) : Type 0 where
  pub many : length made ≡ count
  pub each : All (λ copy. copy ≡ values) made

-- so many copies of these data can be taken
abbrev pub HasLast : List Datum → ℕ → Copies → Type 0
HasLast values count (Light light) = light ≡ values
HasLast values count (Made made) = AreCopies values count made.items

-- one can
pub record HasOne (copies : Copies) : Type 0 where
  pub values : List Datum
  pub left : ℕ
  pub has : HasLast values (suc left) copies

-- one was taken
abbrev pub TakesLast : List Datum → Copies → Copies → Type 0
TakesLast copy before after =
    (values : List Datum) (left : ℕ) → HasLast values (suc left) before →
    (copy ≡ values) × HasLast values left after
