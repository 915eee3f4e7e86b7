-- What a job makes of the data that it takes.
use Rattle.std.specs.Prelude.{◌⊎◌, ℕ, ℤ, pos, negsuc, IsTrue, List, [], ◌∷◌, ◌++◌, length, map, nat_le, codes, slice_get, Ok, Err, if◌then◌else◌}
use Rattle.std.specs.Fmt.{signed_decimal}
use Rattle.std.specs.List.{flat_map, range_with_len}
use Rattle.std.specs.Option.{option_to_list}
use Rattle.exec_value.specs.Kinds.{HasKind, HaveKinds}
use Rattle.exec_value.specs.Number.{int_of}
use Rattle.exec_value.specs.Sum.{sum_of_data}
use Rattle.exec_value.specs.declared.limits.TheConstants.{NUMBERS}
use Rattle.exec_value.specs.declared.kinds.Kind.{Kind}
use Rattle.exec_value.specs.declared.kinds.Kind.TheVariants.{Text as TextKind, Row as RowKind}
use Rattle.exec_value.specs.declared.data.Datum.{Datum}
use Rattle.exec_value.specs.declared.data.Datum.TheVariants.{Int, Text, Row, SomeInt, SomeText}
pub use Rattle.exec_job.specs.Answer.{Answer, int_answer, ending, EndsInPlace}
use Rattle.exec_job.specs.Answer.{parsed, text_answer}
use Rattle.exec_job.specs.Element.{at_index, fitting}
use Rattle.exec_job.specs.Takes.{takes}
use Rattle.exec_job.specs.declared.job.Job.{Job}
use Rattle.exec_job.specs.declared.job.Job.TheVariants.{Add, Sub, Mul, Div, Neg, Within, Index, Fail, Iota, Sum, Append, Join, Length, Parse, Show, Give, At, IntOr, TextOr, Pass}

-- the job takes the kinds that these data are of
abbrev pub TakesData : Job → List Datum → Type 0
TakesData job values = (kinds : List Kind) × HaveKinds values kinds × IsTrue (takes job kinds)

-- what is given for one int; other data are not taken, and count as given back
abbrev pub on_int : (ℤ → Answer) → List Datum → Answer
on_int give (Int x ∷ []) = give x
on_int give values = Ok values

-- what is given for one text
abbrev pub on_text : (List ℕ → Answer) → List Datum → Answer
on_text give (Text bytes ∷ []) = give bytes
on_text give values = Ok values

-- what is given for one datum
abbrev pub on_one : (Datum → Datum) → List Datum → Answer
on_one give (datum ∷ []) = Ok (give datum ∷ [])
on_one give values = Ok values

-- the row of the numbers 0 to x - 1
abbrev pub iota : ℤ → Answer
iota (pos x) = if nat_le x NUMBERS then Ok (Row (map pos (range_with_len 0 x)) ∷ [])
    else Err (codes "out-of-range")
iota (negsuc x) = Err (codes "out-of-range")

-- the bytes of a text
abbrev pub bytes_of : Datum → List ℕ
bytes_of (Text bytes) = bytes
bytes_of datum = []

-- a text or a row
abbrev pub HasLength : Datum → Type 0
HasLength datum = HasKind datum TextKind ⊎ HasKind datum RowKind

-- how many bytes a text has, or how many numbers a row
abbrev pub length_of : Datum → Datum
length_of (Text bytes) = Int (pos (length bytes))
length_of (Row numbers) = Int (pos (length numbers))
length_of datum = datum

-- the number that is held, or n
abbrev pub int_or : ℤ → Datum → Datum
int_or n (SomeInt x) = Int x
int_or n datum = Int n

-- the text that is held, or this one
abbrev pub text_or : List ℕ → Datum → Datum
text_or text (SomeText bytes) = Text bytes
text_or text datum = Text text

-- an element job on one number by itself, which has the index 0
abbrev pub element_of : Job → List Datum → Answer
element_of job = on_int (λ x. int_answer (at_index job 0 x))

-- what the job gives for data that it takes
abbrev pub apply_of : Job → List Datum → Answer
apply_of (Add n) values = element_of (Add n) values
apply_of (Sub n) values = element_of (Sub n) values
apply_of (Mul n) values = element_of (Mul n) values
apply_of (Div n) values = element_of (Div n) values
apply_of Neg values = element_of Neg values
apply_of (Within lo hi) values = element_of (Within lo hi) values
apply_of Index values = element_of Index values
apply_of (Fail name) values = Err name
apply_of Iota values = on_int iota values
apply_of Sum values = int_answer (fitting (sum_of_data values))
apply_of (Append text) values = on_text (λ bytes. text_answer (bytes ++ text)) values
apply_of Join values = text_answer (flat_map bytes_of values)
apply_of Length values = on_one length_of values
apply_of Parse values = on_text (λ bytes. parsed (int_of bytes)) values
apply_of Show values = on_int (λ x. Ok (Text (signed_decimal x) ∷ [])) values
apply_of (Give constants) values = Ok constants
apply_of (At place) values = Ok (option_to_list (slice_get values place))
apply_of (IntOr n) values = on_one (int_or n) values
apply_of (TextOr text) values = on_one (text_or text) values
apply_of Pass values = Ok values
