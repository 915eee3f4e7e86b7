-- Which operands a job takes.
use Rattle.std.specs.Prelude.{Bool, true, false, ◌||◌, List, [], ◌∷◌, length, nat_lt}
use Rattle.std.specs.List.{list_all}
use Rattle.exec_value.specs.declared.kinds.Kind.{Kind}
use Rattle.exec_value.specs.declared.kinds.Kind.TheVariants.{Int, Text, Row, MaybeInt, MaybeText}
use Rattle.exec_job.specs.declared.job.Job.{Job}
use Rattle.exec_job.specs.declared.job.Job.TheVariants.{Add, Sub, Mul, Div, Neg, Within, Index, Fail, Iota, Sum, Append, Join, Length, Parse, Show, Give, At, IntOr, TextOr, Pass}

-- one int and nothing else, and so on
abbrev pub is_int : List Kind → Bool
is_int (Int ∷ []) = true
is_int kinds = false

abbrev pub is_text : List Kind → Bool
is_text (Text ∷ []) = true
is_text kinds = false

abbrev pub is_row : List Kind → Bool
is_row (Row ∷ []) = true
is_row kinds = false

abbrev pub is_maybe_int : List Kind → Bool
is_maybe_int (MaybeInt ∷ []) = true
is_maybe_int kinds = false

abbrev pub is_maybe_text : List Kind → Bool
is_maybe_text (MaybeText ∷ []) = true
is_maybe_text kinds = false

-- the kinds of which a sum is made, and those of which texts are joined
abbrev pub has_numbers : Kind → Bool
has_numbers Int = true
has_numbers Row = true
has_numbers kind = false

abbrev pub has_bytes : Kind → Bool
has_bytes Text = true
has_bytes kind = false

-- the job may be applied to data of these kinds
abbrev pub takes : Job → List Kind → Bool
takes (Add n) kinds = is_int kinds
takes (Sub n) kinds = is_int kinds
takes (Mul n) kinds = is_int kinds
takes (Div n) kinds = is_int kinds
takes Neg kinds = is_int kinds
takes (Within lo hi) kinds = is_int kinds
takes Index kinds = false
takes (Fail name) kinds = true
takes Iota kinds = is_int kinds
takes Sum kinds = list_all has_numbers kinds
takes (Append text) kinds = is_text kinds
takes Join kinds = list_all has_bytes kinds
takes Length kinds = is_text kinds || is_row kinds
takes Parse kinds = is_text kinds
takes Show kinds = is_int kinds
takes (Give values) kinds = true
takes (At place) kinds = nat_lt place (length kinds)
takes (IntOr n) kinds = is_maybe_int kinds
takes (TextOr text) kinds = is_maybe_text kinds
takes Pass kinds = true

-- the job is also an operation on one number of a row at its index
abbrev pub is_element : Job → Bool
is_element (Add n) = true
is_element (Sub n) = true
is_element (Mul n) = true
is_element (Div n) = true
is_element Neg = true
is_element (Within lo hi) = true
is_element Index = true
is_element job = false
