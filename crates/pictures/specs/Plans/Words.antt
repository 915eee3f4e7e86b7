-- What a box says of a node's own data: in the words of a plan file.
use Rattle.std.specs.Prelude.{ℕ, ℤ, List, [], ◌∷◌, ◌++◌, codes, decimal, map}
use Rattle.std.specs.Fmt.{signed_decimal}
use Rattle.std.specs.List.{concat, flat_map}
use Rattle.exec_value.specs.declared.data.Datum.{Datum}
use Rattle.exec_value.specs.declared.data.Datum.TheVariants.{Int, Text, Row, SomeInt, SomeText, Nothing}
use Rattle.exec_job.specs.declared.job.Job.{Job}
use Rattle.exec_job.specs.declared.job.Job.TheVariants.{Add, Sub, Mul, Div, Neg, Within, Index, Fail, Iota, Sum, Append, Join, Length, Parse, Show, Give, At, IntOr, TextOr, Pass}
use Rattle.node_tree.specs.declared.context.Context.{Context}
use Rattle.node_tree.specs.declared.context.Context.TheVariants as context
use Rattle.plan_rules.specs.declared.node.Query.{Query}
use Rattle.plan_rules.specs.declared.node.Query.TheVariants as query
use Rattle.plan_rules.specs.declared.node.Node.{Node}
use Rattle.plan_rules.specs.declared.node.Node.TheVariants as node
use Rattle.pictures.specs.Plans.Folds.{folded_text}
use Rattle.pictures.specs.Plans.Names.{kind_word}
use Rattle.pictures.specs.Plans.Quoted.{quoted_text}

-- a number of a row behind the first
abbrev pub later_text : ℤ → List ℕ
later_text n = codes "," ++ signed_decimal n

-- a row: its numbers, with commas between them
abbrev pub numbers_text : List ℤ → List ℕ
numbers_text [] = codes "[]"
numbers_text (first ∷ later) =
    concat (codes "[" ∷ signed_decimal first ∷ flat_map later_text later ∷ codes "]" ∷ [])

-- a datum; a plan has none of the last three
abbrev pub datum_text : Datum → List ℕ
datum_text (Int n) = signed_decimal n
datum_text (Text text) = quoted_text text
datum_text (Row numbers) = numbers_text numbers
datum_text (SomeInt n) = signed_decimal n
datum_text (SomeText text) = quoted_text text
datum_text Nothing = codes "null"

-- values, each behind a blank, and equal neighbours once
abbrev pub values_text : List Datum → List ℕ
values_text values = folded_text (map datum_text values)

-- a job: its name, and what it has beside the data
abbrev pub job_text : Job → List ℕ
job_text (Add n) = codes "add " ++ signed_decimal n
job_text (Sub n) = codes "sub " ++ signed_decimal n
job_text (Mul n) = codes "mul " ++ signed_decimal n
job_text (Div n) = codes "div " ++ signed_decimal n
job_text Neg = codes "neg"
job_text (Within lo hi) = concat
    (codes "within " ∷ signed_decimal lo ∷ codes " " ∷ signed_decimal hi ∷ [])
job_text Index = codes "index"
job_text (Fail name) = codes "fail " ++ quoted_text name
job_text Iota = codes "iota"
job_text Sum = codes "sum"
job_text (Append text) = codes "append " ++ quoted_text text
job_text Join = codes "join"
job_text Length = codes "length"
job_text Parse = codes "parse"
job_text Show = codes "show"
job_text (Give values) = codes "give" ++ values_text values
job_text (At place) = codes "at " ++ decimal place
job_text (IntOr n) = codes "value_or " ++ signed_decimal n
job_text (TextOr text) = codes "value_or " ++ quoted_text text
job_text Pass = codes "pass"

abbrev pub context_word : Context → List ℕ
context_word context.Loop = codes "loop"
context_word context.Pool = codes "pool"

abbrev pub query_word : Query → List ℕ
query_word query.Stop = codes "stop"
query_word query.Record = codes "record"

-- what a box says of a node's own data, behind the node's name: nothing of most
abbrev pub own_text : Node → List ℕ
own_text (node.Just values) = codes "\\nvalues" ++ values_text values
own_text (node.JustError e) = codes "\\nerror " ++ quoted_text e
own_text (node.Schedule on) = codes "\\non " ++ context_word on
own_text (node.Delay turns) = codes "\\nturns " ++ decimal turns
own_text (node.ReadEnv asked) = codes "\\nquery " ++ query_word asked
own_text (node.Then child job) = codes "\\njob " ++ job_text job
own_text (node.UponError child job) = codes "\\njob " ++ job_text job
own_text (node.UponStopped child job) = codes "\\njob " ++ job_text job
own_text (node.LetValue child pick bodies) = codes "\\npick " ++ job_text pick
own_text (node.LetError child pick bodies) = codes "\\npick " ++ job_text pick
own_text (node.LetStopped child pick bodies) = codes "\\npick " ++ job_text pick
own_text (node.StartsOn on child) = codes "\\non " ++ context_word on
own_text (node.ContinuesOn child on) = codes "\\non " ++ context_word on
own_text (node.StoppedAsOptional child of) = codes "\\nof " ++ kind_word of
own_text (node.StoppedAsError child e) = codes "\\nerror " ++ quoted_text e
own_text (node.Bulk child job) = codes "\\njob " ++ job_text job
own_text other = []
