-- What jobs make of data of kinds that they take.
use Rattle.std.proofs.Common.{◌≡◌, ℕ, zero, suc, ℤ, pos, negsuc, Bool, true, false, IsTrue, ◌||◌, List, [], ◌∷◌, ◌++◌, map, Option, Some, None, Result, Ok, Err, refl, sym, subst, if◌then◌else◌}
use Rattle.std.specs.Prelude.{slice_get, nat_le, length, codes}
use Rattle.std.specs.Fmt.{signed_decimal}
use Rattle.std.specs.List.{flat_map, range_with_len}
use Rattle.std.specs.Option.{option_to_list}
use Rattle.exec_value.specs.Kinds.{HasKind, HaveKinds, kind_of}
use Rattle.exec_value.specs.Number.{int_of}
use Rattle.exec_value.specs.Sum.{sum_of_data}
use Rattle.exec_value.specs.declared.limits.TheConstants.{NUMBERS, TEXT_BYTES}
use Rattle.exec_value.specs.declared.kinds.Kind.{Kind}
use Rattle.exec_value.specs.declared.kinds.Kind.TheVariants.{Int as IntKind, Text as TextKind, Row as RowKind, MaybeInt, MaybeText}
use Rattle.exec_value.specs.declared.data.Datum.{Datum}
use Rattle.exec_value.specs.declared.data.Datum.TheVariants.{Int, Text, Row, SomeInt, SomeText, Nothing}
use Rattle.exec_job.specs.Answer.{Answer, int_answer, parsed, text_answer}
use Rattle.exec_job.specs.Apply.{on_int, on_text, on_one, iota, bytes_of, length_of, int_or, text_or}
use Rattle.exec_job.specs.Element.{at_index, fitting}
use Rattle.exec_job.specs.Takes.{is_int, is_text, is_row, is_maybe_int, is_maybe_text}
use Rattle.exec_job.specs.declared.fault.JobFault.{JobFault}
use Rattle.exec_job.specs.declared.job.Job.{Job}
use Rattle.exec_job.specs.declared.job.Job.TheVariants.{Add, Sub, Mul, Div, Neg, Within, Index, Fail, Iota, Sum, Append, Join, Length, Parse, Show, Give, At, IntOr, TextOr, Pass}
use Rattle.plan_kinds.specs.Shapes.{Shape}
use Rattle.plan_kinds.specs.Gives.{int_alone, text_alone, row_alone}
use Rattle.plan_kinds.specs.Laws.{AnswerFits, JobsKeepKinds}

-- data of one kind are one datum, and which
pub one-datum : (values : List Datum) (kind : Kind) → HaveKinds values (kind ∷ []) →
    (datum : Datum) × HasKind datum kind × (values ≡ datum ∷ [])
one-datum [] kind have = absurd have
one-datum (datum ∷ []) kind have = (datum, have.0, refl)
one-datum (datum ∷ next ∷ values) kind have = absurd have.1

pub one-int : (values : List Datum) → HaveKinds values (IntKind ∷ []) → (x : ℤ) × (values ≡ Int x ∷ [])
one-int [] have = absurd have
one-int (Int x ∷ []) have = (x, refl)
one-int (datum ∷ []) have = absurd have.0
one-int (datum ∷ next ∷ values) have = absurd have.1

pub one-row : (values : List Datum) → HaveKinds values (RowKind ∷ []) →
    (numbers : List ℤ) × (values ≡ Row numbers ∷ [])
one-row [] have = absurd have
one-row (Row numbers ∷ []) have = (numbers, refl)
one-row (datum ∷ []) have = absurd have.0
one-row (datum ∷ next ∷ values) have = absurd have.1

one-text : (values : List Datum) → HaveKinds values (TextKind ∷ []) →
    (bytes : List ℕ) × (values ≡ Text bytes ∷ [])
one-text [] have = absurd have
one-text (Text bytes ∷ []) have = (bytes, refl)
one-text (datum ∷ []) have = absurd have.0
one-text (datum ∷ next ∷ values) have = absurd have.1

-- data are of their own kinds
has-own_kind : (datum : Datum) → HasKind datum (kind_of datum)
has-own_kind (Int x) = tt
has-own_kind (Text bytes) = tt
has-own_kind (Row numbers) = tt
has-own_kind (SomeInt x) = tt
has-own_kind (SomeText bytes) = tt
has-own_kind Nothing = tt

pub have-own_kinds : (values : List Datum) → HaveKinds values (map kind_of values)
have-own_kinds [] = tt
have-own_kinds (datum ∷ values) = (has-own_kind datum, have-own_kinds values)

at-kinds : (values : List Datum) (kinds : List Kind) (place : ℕ) → HaveKinds values kinds →
    HaveKinds (option_to_list (slice_get values place)) (option_to_list (slice_get kinds place))
at-kinds [] [] place have = tt
at-kinds [] (kind ∷ kinds) place have = absurd have
at-kinds (datum ∷ values) [] place have = absurd have
at-kinds (datum ∷ values) (kind ∷ kinds) zero have = (have.0, tt)
at-kinds (datum ∷ values) (kind ∷ kinds) (suc place) have = at-kinds values kinds place have.1

-- answers that are made in one way
int-fits : (result : Result ℤ JobFault) → AnswerFits int_alone true (int_answer result)
int-fits (Ok x) = (tt, tt)
int-fits (Err fault) = refl

parsed-fits : (found : Option ℤ) → AnswerFits int_alone true (parsed found)
parsed-fits (Some x) = (tt, tt)
parsed-fits None = refl

chosen-fits : (shape : Shape) (fails test : Bool) (first second : Answer) → AnswerFits shape fails first →
    AnswerFits shape fails second → AnswerFits shape fails (if test then first else second)
chosen-fits shape fails true first second one other = one
chosen-fits shape fails false first second one other = other

text-fits : (bytes : List ℕ) → AnswerFits text_alone true (text_answer bytes)
text-fits bytes =
    chosen-fits text_alone true (nat_le (length bytes) TEXT_BYTES) (Ok (Text bytes ∷ []))
    (Err (codes "too-long")) (tt, tt) refl

iota-fits : (x : ℤ) → AnswerFits row_alone true (iota x)
iota-fits (pos x) =
    chosen-fits row_alone true (nat_le x NUMBERS) (Ok (Row (map pos (range_with_len 0 x)) ∷ []))
    (Err (codes "out-of-range")) (tt, tt) refl
iota-fits (negsuc x) = refl

-- what is given for one int, and for one text
on_int-fits : (shape : Shape) (fails : Bool) (give : ℤ → Answer) →
    ((x : ℤ) → AnswerFits shape fails (give x)) → (values : List Datum) (kinds : List Kind) →
    HaveKinds values kinds → IsTrue (is_int kinds) → AnswerFits shape fails (on_int give values)
on_int-fits shape fails give each values (IntKind ∷ []) have takes =
    let one = one-int values have in
    subst (λ (l : List Datum). AnswerFits shape fails (on_int give l)) (sym one.1) (each one.0)
on_int-fits shape fails give each values kinds have takes = cc

on_text-fits : (shape : Shape) (fails : Bool) (give : List ℕ → Answer) →
    ((bytes : List ℕ) → AnswerFits shape fails (give bytes)) → (values : List Datum) (kinds : List Kind) →
    HaveKinds values kinds → IsTrue (is_text kinds) → AnswerFits shape fails (on_text give values)
on_text-fits shape fails give each values (TextKind ∷ []) have takes =
    let one = one-text values have in
    subst (λ (l : List Datum). AnswerFits shape fails (on_text give l)) (sym one.1) (each one.0)
on_text-fits shape fails give each values kinds have takes = cc

element-fits : (job : Job) (values : List Datum) (kinds : List Kind) → HaveKinds values kinds →
    IsTrue (is_int kinds) →
    AnswerFits int_alone true (on_int (λ x. int_answer (at_index job 0 x)) values)
element-fits job =
    on_int-fits int_alone true (λ x. int_answer (at_index job 0 x)) (λ x. int-fits (at_index job 0 x))

-- what is given for one datum
length-fits : (values : List Datum) (kinds : List Kind) → HaveKinds values kinds →
    IsTrue (is_text kinds || is_row kinds) → AnswerFits int_alone false (on_one length_of values)
length-fits values (TextKind ∷ []) have takes =
    let one = one-text values have in
    subst (λ (l : List Datum). AnswerFits int_alone false (on_one length_of l)) (sym one.1) (tt, tt)
length-fits values (RowKind ∷ []) have takes =
    let one = one-row values have in
    subst (λ (l : List Datum). AnswerFits int_alone false (on_one length_of l)) (sym one.1) (tt, tt)
length-fits values kinds have takes = cc

int_or-kind : (n : ℤ) (datum : Datum) → HasKind (int_or n datum) IntKind
int_or-kind n (SomeInt x) = tt
int_or-kind n datum = tt

int_or-fits : (n : ℤ) (values : List Datum) (kinds : List Kind) → HaveKinds values kinds →
    IsTrue (is_maybe_int kinds) → AnswerFits int_alone false (on_one (int_or n) values)
int_or-fits n values (MaybeInt ∷ []) have takes =
    let one = one-datum values MaybeInt have in
    subst (λ (l : List Datum). AnswerFits int_alone false (on_one (int_or n) l)) (sym one.2)
    (int_or-kind n one.0, tt)
int_or-fits n values kinds have takes = cc

text_or-kind : (text : List ℕ) (datum : Datum) → HasKind (text_or text datum) TextKind
text_or-kind text (SomeText bytes) = tt
text_or-kind text datum = tt

text_or-fits : (text : List ℕ) (values : List Datum) (kinds : List Kind) → HaveKinds values kinds →
    IsTrue (is_maybe_text kinds) → AnswerFits text_alone false (on_one (text_or text) values)
text_or-fits text values (MaybeText ∷ []) have takes =
    let one = one-datum values MaybeText have in
    subst (λ (l : List Datum). AnswerFits text_alone false (on_one (text_or text) l)) (sym one.2)
    (text_or-kind text one.0, tt)
text_or-fits text values kinds have takes = cc

pub jobs-keep_kinds : JobsKeepKinds
jobs-keep_kinds (Add n) values kinds have takes = element-fits (Add n) values kinds have takes
jobs-keep_kinds (Sub n) values kinds have takes = element-fits (Sub n) values kinds have takes
jobs-keep_kinds (Mul n) values kinds have takes = element-fits (Mul n) values kinds have takes
jobs-keep_kinds (Div n) values kinds have takes = element-fits (Div n) values kinds have takes
jobs-keep_kinds Neg values kinds have takes = element-fits Neg values kinds have takes
jobs-keep_kinds (Within lo hi) values kinds have takes = element-fits (Within lo hi) values kinds have takes
jobs-keep_kinds Index values kinds have takes = cc
jobs-keep_kinds (Fail name) values kinds have takes = refl
jobs-keep_kinds Iota values kinds have takes =
    on_int-fits row_alone true iota iota-fits values kinds have takes
jobs-keep_kinds Sum values kinds have takes = int-fits (fitting (sum_of_data values))
jobs-keep_kinds (Append text) values kinds have takes =
    on_text-fits text_alone true (λ bytes. text_answer (bytes ++ text)) (λ bytes. text-fits (bytes ++ text))
    values kinds have takes
jobs-keep_kinds Join values kinds have takes = text-fits (flat_map bytes_of values)
jobs-keep_kinds Length values kinds have takes = length-fits values kinds have takes
jobs-keep_kinds Parse values kinds have takes =
    on_text-fits int_alone true (λ bytes. parsed (int_of bytes)) (λ bytes. parsed-fits (int_of bytes))
    values kinds have takes
jobs-keep_kinds Show values kinds have takes =
    on_int-fits text_alone false (λ x. Ok (Text (signed_decimal x) ∷ [])) (λ x. (tt, tt))
    values kinds have takes
jobs-keep_kinds (Give constants) values kinds have takes = have-own_kinds constants
jobs-keep_kinds (At place) values kinds have takes = at-kinds values kinds place have
jobs-keep_kinds (IntOr n) values kinds have takes = int_or-fits n values kinds have takes
jobs-keep_kinds (TextOr text) values kinds have takes = text_or-fits text values kinds have takes
jobs-keep_kinds Pass values kinds have takes = have
