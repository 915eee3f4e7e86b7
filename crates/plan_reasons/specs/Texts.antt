-- What jobs, kinds and shapes are called in a sentence.
use Rattle.std.specs.Prelude.{ℕ, ◌==◌, List, length, map, if◌then◌else◌, codes}
use Rattle.std.specs.Option.{option_map_or}
use Rattle.exec_value.specs.declared.kinds.Kind.{Kind}
use Rattle.exec_value.specs.declared.kinds.Kind.TheVariants as kind
use Rattle.exec_job.specs.declared.job.Job.{Job}
use Rattle.exec_job.specs.declared.job.Job.TheVariants.{Add, Sub, Mul, Div, Neg, Within, Index, Fail, Iota, Sum, Append, Join, Length, Parse, Show, Give, At, IntOr, TextOr, Pass}
use Rattle.plan_kinds.specs.Shapes.{Shape}
use Rattle.plan_reasons.specs.Shown.{joined}

-- what a job is called, and what it takes
abbrev pub job_name : Job → List ℕ
job_name (Add n) = codes "add"
job_name (Sub n) = codes "sub"
job_name (Mul n) = codes "mul"
job_name (Div n) = codes "div"
job_name Neg = codes "neg"
job_name (Within lo hi) = codes "within"
job_name Index = codes "index"
job_name (Fail error) = codes "fail"
job_name Iota = codes "iota"
job_name Sum = codes "sum"
job_name (Append text) = codes "append"
job_name Join = codes "join"
job_name Length = codes "length"
job_name Parse = codes "parse"
job_name Show = codes "show"
job_name (Give values) = codes "give"
job_name (At place) = codes "at"
job_name (IntOr n) = codes "value_or"
job_name (TextOr text) = codes "value_or"
job_name Pass = codes "pass"

abbrev pub wanted_by : Job → List ℕ
wanted_by (Add n) = codes "int"
wanted_by (Sub n) = codes "int"
wanted_by (Mul n) = codes "int"
wanted_by (Div n) = codes "int"
wanted_by Neg = codes "int"
wanted_by (Within lo hi) = codes "int"
wanted_by Index = codes "the elements of a bulk"
wanted_by (Fail error) = codes "any data"
wanted_by Iota = codes "int"
wanted_by Sum = codes "ints and rows"
wanted_by (Append text) = codes "text"
wanted_by Join = codes "texts"
wanted_by Length = codes "text or row"
wanted_by Parse = codes "text"
wanted_by Show = codes "int"
wanted_by (Give values) = codes "any data"
wanted_by (At place) = codes "more data than its i"
wanted_by (IntOr n) = codes "optional-int"
wanted_by (TextOr text) = codes "optional-text"
wanted_by Pass = codes "any data"

-- kinds by their names
abbrev pub shown_kind : Kind → List ℕ
shown_kind kind.Int = codes "int"
shown_kind kind.Text = codes "text"
shown_kind kind.Row = codes "row"
shown_kind kind.MaybeInt = codes "optional-int"
shown_kind kind.MaybeText = codes "optional-text"

abbrev pub joined_names : List Kind → List ℕ
joined_names kinds = joined (codes " ") (map shown_kind kinds)

abbrev pub kind_names : List Kind → List ℕ
kind_names kinds = if length kinds == 0 then codes "no data" else joined_names kinds

abbrev pub shape_text : Shape → List ℕ
shape_text shape = option_map_or kind_names shape (codes "no value")
