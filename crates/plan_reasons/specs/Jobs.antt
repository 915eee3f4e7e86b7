-- What is wrong with a job.
use Rattle.std.specs.Prelude.{ℕ, Bool, true, false, ◌++◌, List, [], option_and_then, unwrap_or, if◌then◌else◌, codes}
use Rattle.std.specs.Option.{option_map_or}
use Rattle.serde_json.specs.Data.{Data}
use Rattle.serde_json.specs.Find.{get}
use Rattle.plan_parts.specs.declared.job_word.JobWord.{JobWord}
use Rattle.plan_parts.specs.declared.job_word.JobWord.TheVariants.{Plain, Arithmetic, Within, Fail, Append, Give, At, ValueOr}
use Rattle.plan_parts.specs.JobWords.{job_keys, job_named}
use Rattle.plan_parts.specs.Objects.{number_at, text_at}
use Rattle.plan_reasons.specs.declared.own.Fault.{Fault}
use Rattle.plan_reasons.specs.declared.part.Part.{Part}
use Rattle.plan_reasons.specs.declared.part.Part.TheVariants as part
use Rattle.plan_reasons.specs.Own.{faults_of, has, key_faults}
use Rattle.plan_reasons.specs.Parts.{part_key}
use Rattle.plan_reasons.specs.Sentences.{needs, unknown_key, wrong_at, wrong_part}
use Rattle.plan_reasons.specs.Shown.{shown_text}

-- the jobs of a bulk, which are over elements, and those of the other nodes, by what they take
abbrev pub jobs : Bool → List ℕ
jobs true = codes "jobs over elements: add, sub, mul, div, neg, within, index"
jobs false = codes
    "jobs on an int: add, sub, mul, div, neg, within, iota, show; on a text: append, parse, length; on a row: length; on ints and rows: sum; on texts: join; on an optional: value_or; on any data: at, fail, give, pass"

-- a job whose name isn't known
abbrev pub no_job : Bool → List ℕ → List ℕ
no_job elements name = codes "no job " ++ (shown_text name ++ (codes "; " ++ jobs elements))

-- which part of a job is wrong, where its keys are known. A job of which the name says all has no
-- other part.
abbrev pub job_part : JobWord → Data → Part
job_part (Plain plain) d = part.JobName
job_part (Arithmetic arithmetic) d = part.N
job_part Within d = if (faults_of (number_at (codes "lo") d)).form then part.Lo else part.Hi
job_part Fail d = part.Error
job_part Append d = part.Text
job_part Give d = part.Values
job_part At d = part.I
job_part ValueOr d = part.Else

-- a job of this name
abbrev pub known_job_wrong : Fault → List ℕ → JobWord → Data → List ℕ
known_job_wrong fault name word d =
    if has fault (key_faults (job_keys word) d) then unknown_key name (job_keys word) d
    else wrong_part fault name (job_part word d) d

-- a job of a node, over elements or not
abbrev pub named_job_wrong : Fault → Bool → Data → List ℕ → List ℕ
named_job_wrong fault elements d name =
    option_map_or (λ word. known_job_wrong fault name word d) (job_named name)
    (no_job elements name)

unfoldable pub job_wrong : Fault → Bool → Data → List ℕ
job_wrong fault elements d =
    option_map_or (named_job_wrong fault elements d) (text_at (codes "job") d)
    (wrong_at (codes "a job") part.JobName d)

-- the job at a key of a node
unfoldable pub job_wrong_at : Fault → Bool → List ℕ → Part → Data → List ℕ
job_wrong_at fault elements who part d =
    option_map_or (job_wrong fault elements) (get (part_key part) d) (needs who part d)

-- the job of a bulk is none over elements
unfoldable pub other_job : Data → List ℕ
other_job d =
    shown_text (unwrap_or (option_and_then (text_at (codes "job")) (get (codes "job") d)) [])
    ++ (codes " is no job over elements; " ++ jobs true)
