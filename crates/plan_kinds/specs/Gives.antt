-- What a job gives for operands of kinds that it takes.
use Rattle.std.specs.Prelude.{Bool, true, false, ◌&&◌, List, [], ◌∷◌, map, slice_get, Some, None}
use Rattle.std.specs.Option.{option_to_list}
use Rattle.exec_value.specs.Kinds.{kind_of}
use Rattle.exec_value.specs.declared.kinds.Kind.{Kind}
use Rattle.exec_value.specs.declared.kinds.Kind.TheVariants.{Int, Text, Row}
use Rattle.exec_job.specs.Takes.{is_int, takes}
use Rattle.exec_job.specs.declared.job.Job.{Job}
use Rattle.exec_job.specs.declared.job.Job.TheVariants.{Add, Sub, Mul, Div, Neg, Within, Index, Fail, Iota, Sum, Append, Join, Length, Parse, Show, Give, At, IntOr, TextOr, Pass}
use Rattle.plan_kinds.specs.Shapes.{Shape, never_or}

-- one int and nothing else, and so on
abbrev pub int_alone : Shape
int_alone = Some (Int ∷ [])

abbrev pub text_alone : Shape
text_alone = Some (Text ∷ [])

abbrev pub row_alone : Shape
row_alone = Some (Row ∷ [])

-- the shape of the value that a job gives for operands of these kinds
abbrev pub gives : Job → List Kind → Shape
gives (Add n) kinds = int_alone
gives (Sub n) kinds = int_alone
gives (Mul n) kinds = int_alone
gives (Div n) kinds = int_alone
gives Neg kinds = int_alone
gives (Within lo hi) kinds = int_alone
gives Index kinds = int_alone
gives (Fail name) kinds = None
gives Iota kinds = row_alone
gives Sum kinds = int_alone
gives (Append text) kinds = text_alone
gives Join kinds = text_alone
gives Length kinds = int_alone
gives Parse kinds = int_alone
gives Show kinds = text_alone
gives (Give values) kinds = Some (map kind_of values)
gives (At place) kinds = Some (option_to_list (slice_get kinds place))
gives (IntOr n) kinds = int_alone
gives (TextOr text) kinds = text_alone
gives Pass kinds = Some kinds

-- the job may end by an error; the others always give a value
abbrev pub may_fail : Job → Bool
may_fail Length = false
may_fail Show = false
may_fail (Give values) = false
may_fail (At place) = false
may_fail (IntOr n) = false
may_fail (TextOr text) = false
may_fail Pass = false
may_fail job = true

-- the job takes these kinds and gives one int, or never a value: it can pick the body of a let
abbrev pub picks : Job → List Kind → Bool
picks job kinds = takes job kinds && never_or is_int (gives job kinds)
