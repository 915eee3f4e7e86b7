-- Jobs, by their names and keys.
use Rattle.std.specs.Prelude.{ℕ, ℤ, List, option_map, unwrap_or, codes}
use Rattle.std.specs.Option.{option_or, option_map_or}
use Rattle.serde_json.specs.Data.{Data}
use Rattle.serde_json.specs.Find.{get, as_str}
use Rattle.exec_job.specs.declared.job.Job.{Job}
use Rattle.exec_job.specs.declared.job.Job.TheVariants as job
use Rattle.plan_parts.specs.declared.job_word.PlainJob.{PlainJob}
use Rattle.plan_parts.specs.declared.job_word.PlainJob.TheVariants.{Neg, Index, Iota, Sum, Join, Length, Parse, Show, Pass}
use Rattle.plan_parts.specs.declared.job_word.Arithmetic.{Arithmetic as OneNumber}
use Rattle.plan_parts.specs.declared.job_word.Arithmetic.TheVariants.{Add, Sub, Mul, Div}
use Rattle.plan_parts.specs.declared.job_word.JobWord.{JobWord}
use Rattle.plan_parts.specs.declared.job_word.JobWord.TheVariants.{Plain, Arithmetic, Within, Fail, Append, Give, At, ValueOr}
use Rattle.plan_parts.specs.declared.reading.Reading.{Reading}
use Rattle.plan_parts.specs.declared.reading.Reading.TheVariants.{Good, Bad}
use Rattle.plan_parts.specs.declared.reading.TheConstants.{FORM_FAULT, NAME_FAULT}
use Rattle.plan_parts.specs.declared.scalar.TheConstants.{MOST_PLACE}
use Rattle.plan_parts.specs.Reading.{mapped, paired}
use Rattle.plan_parts.specs.Objects.{integer_of, number_at, text_at, with_keys}
use Rattle.plan_parts.specs.Scalars.{count_at, name_at, txt_of}
use Rattle.plan_parts.specs.Constants.{constants_at}
use Rattle.plan_parts.specs.JobWords.{job_keys, job_named}

-- the job of which the name says all
abbrev pub plain_job : PlainJob → Job
plain_job Neg = job.Neg
plain_job Index = job.Index
plain_job Iota = job.Iota
plain_job Sum = job.Sum
plain_job Join = job.Join
plain_job Length = job.Length
plain_job Parse = job.Parse
plain_job Show = job.Show
plain_job Pass = job.Pass

-- the job with one number
abbrev pub arithmetic_job : OneNumber → ℤ → Job
arithmetic_job Add n = job.Add n
arithmetic_job Sub n = job.Sub n
arithmetic_job Mul n = job.Mul n
arithmetic_job Div n = job.Div n

-- from the first number to the second
abbrev pub within_job : ℤ × ℤ → Job
within_job numbers = job.Within numbers.0 numbers.1

-- `value_or` with this text, and with this default: a number or a string
abbrev pub default_text : List ℕ → Reading Job
default_text text = mapped job.TextOr (txt_of text)

abbrev pub default_of : Data → Reading Job
default_of d =
    unwrap_or (option_or (option_map (λ n. Good (job.IntOr n)) (integer_of d))
    (option_map default_text (as_str d)))
    (Bad FORM_FAULT)

-- a job by its name and its further keys
abbrev pub job_parts : JobWord → Data → Reading Job
job_parts (Plain plain) d = Good (plain_job plain)
job_parts (Arithmetic arithmetic) d =
    mapped (arithmetic_job arithmetic) (number_at (codes "n") d)
job_parts Within d = mapped within_job
    (paired (number_at (codes "lo") d) (number_at (codes "hi") d))
job_parts Fail d = mapped job.Fail (name_at (codes "error") d)
job_parts Append d =
    option_map_or (λ text. mapped job.Append (txt_of text)) (text_at (codes "text") d)
    (Bad FORM_FAULT)
job_parts Give d = mapped job.Give (constants_at (codes "values") d)
job_parts At d = mapped job.At (count_at (codes "i") 0 MOST_PLACE d)
job_parts ValueOr d = option_map_or default_of (get (codes "else") d) (Bad FORM_FAULT)

-- a job whose name is known: another key than its own is a fault
abbrev pub known_job : JobWord → Data → Reading Job
known_job word d = with_keys (job_keys word) d (job_parts word d)

-- a job: it needs a name that is a string; of one whose name isn't known nothing else is read
abbrev pub job_of : Data → Reading Job
job_of d =
    option_map_or
    (λ name. option_map_or (λ word. known_job word d) (job_named name) (Bad NAME_FAULT))
    (text_at (codes "job") d) (Bad FORM_FAULT)

-- the same at a key
abbrev pub job_at : List ℕ → Data → Reading Job
job_at key d = option_map_or job_of (get key d) (Bad FORM_FAULT)
