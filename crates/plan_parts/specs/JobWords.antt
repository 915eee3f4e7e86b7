-- The names of the jobs, and the keys that each has.
use Rattle.std.specs.Prelude.{ℕ, List, [], ◌∷◌, Option, option_map, codes}
use Rattle.std.specs.Option.{option_or}
use Rattle.plan_parts.specs.declared.job_word.PlainJob.{PlainJob}
use Rattle.plan_parts.specs.declared.job_word.PlainJob.TheVariants.{Neg, Index, Iota, Sum, Join, Length, Parse, Show, Pass}
use Rattle.plan_parts.specs.declared.job_word.Arithmetic.{Arithmetic as OneNumber}
use Rattle.plan_parts.specs.declared.job_word.Arithmetic.TheVariants.{Add, Sub, Mul, Div}
use Rattle.plan_parts.specs.declared.job_word.JobWord.{JobWord}
use Rattle.plan_parts.specs.declared.job_word.JobWord.TheVariants.{Plain, Arithmetic, Within, Fail, Append, Give, At, ValueOr}
use Rattle.plan_parts.specs.Named.{named}

-- the jobs of which a file says the name alone
abbrev pub plain_job_named : List ℕ → Option PlainJob
plain_job_named = named (
    (codes "neg", Neg) ∷ (codes "index", Index) ∷ (codes "iota", Iota) ∷ (codes "sum", Sum)
    ∷ (codes "join", Join) ∷ (codes "length", Length) ∷ (codes "parse", Parse)
    ∷ (codes "show", Show) ∷ (codes "pass", Pass) ∷ [])

-- those with one number
abbrev pub arithmetic_named : List ℕ → Option OneNumber
arithmetic_named = named (
    (codes "add", Add) ∷ (codes "sub", Sub) ∷ (codes "mul", Mul) ∷ (codes "div", Div) ∷ [])

-- the others
abbrev pub other_job_named : List ℕ → Option JobWord
other_job_named = named (
    (codes "within", Within) ∷ (codes "fail", Fail) ∷ (codes "append", Append)
    ∷ (codes "give", Give) ∷ (codes "at", At) ∷ (codes "value_or", ValueOr) ∷ [])

-- the job of a name
abbrev pub job_named : List ℕ → Option JobWord
job_named name =
    option_or (option_map Plain (plain_job_named name))
    (option_or (option_map Arithmetic (arithmetic_named name)) (other_job_named name))

-- the keys that a job has, all of which it needs
abbrev pub job_keys : JobWord → List (List ℕ)
job_keys (Plain plain) = codes "job" ∷ []
job_keys (Arithmetic arithmetic) = codes "job" ∷ codes "n" ∷ []
job_keys Within = codes "hi" ∷ codes "job" ∷ codes "lo" ∷ []
job_keys Fail = codes "error" ∷ codes "job" ∷ []
job_keys Append = codes "job" ∷ codes "text" ∷ []
job_keys Give = codes "job" ∷ codes "values" ∷ []
job_keys At = codes "i" ∷ codes "job" ∷ []
job_keys ValueOr = codes "else" ∷ codes "job" ∷ []
