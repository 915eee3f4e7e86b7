-- How the data of a list are kept.
use Rattle.std.specs.Prelude.{ℤ, ◌<◌, ◌≤◌, ⊤, [], ◌∷◌, List, length, Option, Some, None}
use Rattle.exec_value.specs.declared.limits.TheConstants.{DATA, INLINE_DATA}
use Rattle.exec_value.specs.declared.data.Datum.{Datum}
use Rattle.exec_value.specs.declared.data.Datum.TheVariants.{Int}
use Rattle.exec_value.specs.declared.data.Items.{Items}
use Rattle.exec_value.specs.declared.data.Items.TheVariants.{None as NoItems, One, Several}

-- the data, one after the other
abbrev pub listed : Items → List Datum
listed NoItems = []
listed (One datum) = datum ∷ []
listed (Several values) = values.items

-- a list of its own is kept only for more data than stand in place
abbrev pub AreManyIfSeveral : Items → Type 0
AreManyIfSeveral NoItems = ⊤
AreManyIfSeveral (One datum) = ⊤
AreManyIfSeveral (Several values) = INLINE_DATA < length values.items

-- the data are no more than a value may have
pub record KeepData (items : Items) : Type 0 where
  pub few : length (listed items) ≤ DATA
  pub many : AreManyIfSeveral items

-- the number of data that are one int
abbrev pub one_int : List Datum → Option ℤ
one_int (Int n ∷ []) = Some n
one_int values = None
