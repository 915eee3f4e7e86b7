-- Jobs as JSON objects, their keys in the order of the bytes.
use Rattle.std.specs.Prelude.{ℕ, ℤ, List, codes}
use Rattle.serde_json.specs.Data.{Data, number, unsigned, string, object, no_members, member, put}
use Rattle.exec_job.specs.declared.job.Job.{Job}
use Rattle.exec_job.specs.declared.job.Job.TheVariants.{Add, Sub, Mul, Div, Neg, Within, Index, Fail, Iota, Sum, Append, Join, Length, Parse, Show, Give, At, IntOr, TextOr, Pass}
use Rattle.plan_writer.specs.Values.{integer_data, constants_data, named}

-- a job of which the name says all
abbrev pub plain_data : List ℕ → Data
plain_data name = object (named (codes "job") name)

-- a job with one more member
abbrev pub job_with : List ℕ → List ℕ → Data → Data
job_with name key value = object (put key value (named (codes "job") name))

-- a job with the number `n`
abbrev pub arithmetic_data : List ℕ → ℤ → Data
arithmetic_data name n = job_with name (codes "n") (integer_data n)

-- from `lo` to `hi`
abbrev pub within_data : ℤ → ℤ → Data
within_data lo hi =
    object (member (codes "hi") (integer_data hi) (member (codes "job") (string (codes "within"))
    (member (codes "lo") (integer_data lo) no_members)))

abbrev pub job_data : Job → Data
job_data (Add n) = arithmetic_data (codes "add") n
job_data (Sub n) = arithmetic_data (codes "sub") n
job_data (Mul n) = arithmetic_data (codes "mul") n
job_data (Div n) = arithmetic_data (codes "div") n
job_data Neg = plain_data (codes "neg")
job_data (Within lo hi) = within_data lo hi
job_data Index = plain_data (codes "index")
job_data (Fail name) = job_with (codes "fail") (codes "error") (string name)
job_data Iota = plain_data (codes "iota")
job_data Sum = plain_data (codes "sum")
job_data (Append text) = job_with (codes "append") (codes "text") (string text)
job_data Join = plain_data (codes "join")
job_data Length = plain_data (codes "length")
job_data Parse = plain_data (codes "parse")
job_data Show = plain_data (codes "show")
job_data (Give values) = job_with (codes "give") (codes "values") (constants_data values)
job_data (At place) = job_with (codes "at") (codes "i") (number (unsigned place))
job_data (IntOr n) = job_with (codes "value_or") (codes "else") (integer_data n)
job_data (TextOr text) = job_with (codes "value_or") (codes "else") (string text)
job_data Pass = plain_data (codes "pass")
