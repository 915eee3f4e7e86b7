-- Where a job's own name is short, each error that it answers is.
use Rattle.std.specs.Prelude.{ℤ, pos, negsuc, nat_le, Option, Some, None, Result, Ok, Err, if◌then◌else◌}
use Rattle.std.specs.List.{flat_map}
use Rattle.std.specs.Fmt.{signed_decimal}
use Rattle.std.proofs.Common.{ℕ, ◌≤◌, Bool, true, false, List, [], ◌∷◌, ◌++◌, length, arith}
use Rattle.exec_value.specs.Number.{int_of}
use Rattle.exec_value.specs.Sum.{sum_of_data}
use Rattle.exec_value.specs.declared.limits.TheConstants.{INLINE_BYTES, NUMBERS, TEXT_BYTES}
use Rattle.exec_value.specs.declared.data.Datum.{Datum}
use Rattle.exec_value.specs.declared.data.Datum.TheVariants.{Int, Text}
use Rattle.exec_job.specs.Answer.{Answer, int_answer, parsed, text_answer}
use Rattle.exec_job.specs.Apply.{on_int, on_text, on_one, iota, bytes_of, element_of, apply_of}
use Rattle.exec_job.specs.Element.{at_index, fitting}
use Rattle.exec_job.specs.declared.fault.JobFault.{JobFault}
use Rattle.exec_job.specs.declared.fault.JobFault.TheVariants.{Overflow, ZeroDivisor, OutOfRange}
use Rattle.exec_job.specs.declared.job.Job.{Job}
use Rattle.exec_job.specs.declared.job.Job.TheVariants.{Add, Sub, Mul, Div, Neg, Within, Index, Fail, Iota, Sum, Append, Join, Length, Parse, Show, Give, At, IntOr, TextOr, Pass}
use Rattle.plan_kinds.specs.Small.{name_of_job}

-- the name of the error that a job gives of its own is short
abbrev pub IsShortJob : Job → Type 0
IsShortJob job = length (name_of_job job) ≤ INLINE_BYTES

-- the name of an error that is answered is short
abbrev pub ShortAnswer : Answer → Type 0
ShortAnswer (Ok values) = Unit {0}
ShortAnswer (Err name) = length name ≤ INLINE_BYTES

fault-short : (answer : Result ℤ JobFault) → ShortAnswer (int_answer answer)
fault-short (Ok n) = tt
fault-short (Err Overflow) = omega arith
fault-short (Err ZeroDivisor) = omega arith
fault-short (Err OutOfRange) = omega arith

chosen-short : (test : Bool) (first second : Answer) → ShortAnswer first → ShortAnswer second →
    ShortAnswer (if test then first else second)
chosen-short true first second one other = one
chosen-short false first second one other = other

int-short : (give : ℤ → Answer) → ((x : ℤ) → ShortAnswer (give x)) → (values : List Datum) →
    ShortAnswer (on_int give values)
int-short give each (Int x ∷ []) = each x
int-short give each values = tt

text-short : (give : List ℕ → Answer) → ((bytes : List ℕ) → ShortAnswer (give bytes)) →
    (values : List Datum) → ShortAnswer (on_text give values)
text-short give each (Text bytes ∷ []) = each bytes
text-short give each values = tt

one-short : (give : Datum → Datum) (values : List Datum) → ShortAnswer (on_one give values)
one-short give (datum ∷ []) = tt
one-short give values = tt

iota-short : (x : ℤ) → ShortAnswer (iota x)
iota-short (pos x) = chosen-short (nat_le x NUMBERS) _ _ tt (omega arith)
iota-short (negsuc x) = omega arith

long-short : (bytes : List ℕ) → ShortAnswer (text_answer bytes)
long-short bytes = chosen-short (nat_le (length bytes) TEXT_BYTES) _ _ tt (omega arith)

parsed-short : (found : Option ℤ) → ShortAnswer (parsed found)
parsed-short (Some n) = tt
parsed-short None = omega arith

element-short : (job : Job) (values : List Datum) → ShortAnswer (element_of job values)
element-short job = int-short (λ x. int_answer (at_index job 0 x)) (λ x. fault-short (at_index job 0 x))

pub job-short : (job : Job) → IsShortJob job → (values : List Datum) → ShortAnswer (apply_of job values)
job-short (Add n) named values = element-short (Add n) values
job-short (Sub n) named values = element-short (Sub n) values
job-short (Mul n) named values = element-short (Mul n) values
job-short (Div n) named values = element-short (Div n) values
job-short Neg named values = element-short Neg values
job-short (Within lo hi) named values = element-short (Within lo hi) values
job-short Index named values = element-short Index values
job-short (Fail name) named values = named
job-short Iota named values = int-short iota iota-short values
job-short Sum named values = fault-short (fitting (sum_of_data values))
job-short (Append text) named values =
    text-short (λ bytes. text_answer (bytes ++ text)) (λ bytes. long-short (bytes ++ text)) values
job-short Join named values = long-short (flat_map bytes_of values)
job-short Length named values = one-short _ values
job-short Parse named values =
    text-short (λ bytes. parsed (int_of bytes)) (λ bytes. parsed-short (int_of bytes)) values
job-short Show named values = int-short (λ x. Ok (Text (signed_decimal x) ∷ [])) (λ x. tt) values
job-short (Give constants) named values = tt
job-short (At place) named values = tt
job-short (IntOr n) named values = one-short _ values
job-short (TextOr text) named values = one-short _ values
job-short Pass named values = tt
