-- One int is all of the data where it is found so.
use Rattle.std.proofs.Common.{◌≡◌, List, [], ◌∷◌}
use Rattle.std.specs.Prelude.{ℤ, Some}
use Rattle.exec_value.specs.declared.data.Datum.{Datum}
use Rattle.exec_value.specs.declared.data.Datum.TheVariants.{Int, Text, Row, SomeInt, SomeText, Nothing}
use Rattle.exec_value.specs.Items.{one_int}

pub int-alone : (values : List Datum) (n : ℤ) → one_int values ≡ Some n → Int n ∷ [] ≡ values
int-alone (Int m ∷ []) n is = cc
int-alone (Int m ∷ d ∷ ds) n is = cc
int-alone (Text text ∷ ds) n is = cc
int-alone (Row row ∷ ds) n is = cc
int-alone (SomeInt m ∷ ds) n is = cc
int-alone (SomeText text ∷ ds) n is = cc
int-alone (Nothing ∷ ds) n is = cc
int-alone [] n is = cc
