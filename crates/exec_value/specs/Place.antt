-- Which values stand in place, so that making or copying one wants no memory.
use Rattle.std.specs.Prelude.{◌≤◌, ⊤, List, length, All}
use Rattle.exec_value.specs.declared.limits.TheConstants.{INLINE_BYTES, INLINE_DATA}
use Rattle.exec_value.specs.declared.data.Datum.{Datum}
use Rattle.exec_value.specs.declared.data.Datum.TheVariants.{Int, Text, Row, SomeInt, SomeText, Nothing}

-- a datum stands in place where it is no row and its text is short; that a row of one number does
-- too, no copy rests on
abbrev pub IsInPlace : Datum → Type 0
IsInPlace (Int n) = ⊤
IsInPlace (Text bytes) = length bytes ≤ INLINE_BYTES
IsInPlace (Row numbers) = ⊥
IsInPlace (SomeInt n) = ⊤
IsInPlace (SomeText bytes) = length bytes ≤ INLINE_BYTES
IsInPlace Nothing = ⊤

-- data do where they are few and each of them does
pub record AreInPlace (values : List Datum) : Type 0 where
  pub few : length values ≤ INLINE_DATA
  pub each : All IsInPlace values
