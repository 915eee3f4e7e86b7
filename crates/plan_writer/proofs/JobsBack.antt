-- Constants and jobs are read back as they were written.
use Rattle.std.specs.Prelude.{nat_lt, nat_le}
use Rattle.std.specs.Str.{is_utf8}
use Rattle.std.proofs.Common.{◌≡◌, ℕ, ℤ, pos, negsuc, ◌+◌, ◌<◌, ◌≤◌, ◌^◌, true, cond, List, [], ◌∷◌, ◌++◌, All, length, map, append_assoc, append-nil, length-append, Some, None, refl, sym, ap, ◌∙◌, arith}
use Rattle.std.proofs.lemmas.Bool.{and_from, lt-ltb, le-leb, cond-true}
use Rattle.std.proofs.lemmas.Str.{is_utf8-from_IsUtf8}
use Rattle.std.proofs.lemmas.List.Elements.{All-head, All-tail}
use Rattle.serde_json.specs.Data.{Items, number, unsigned}
use Rattle.serde_json.specs.View.{items_of}
use Rattle.exec_value.specs.Text.{IsText, is_text}
use Rattle.exec_value.specs.ErrorName.{is_error_name}
use Rattle.exec_value.specs.Kinds.{IsConstant}
use Rattle.exec_value.specs.declared.limits.TheConstants.{DATA, NUMBERS, TEXT_BYTES}
use Rattle.exec_value.specs.declared.data.Datum.{Datum}
use Rattle.exec_value.specs.declared.data.Datum.TheVariants.{Int, Text, Row}
use Rattle.exec_job.specs.declared.job.Job.{Job}
use Rattle.exec_job.specs.declared.job.Job.TheVariants.{Add, Sub, Mul, Div, Neg, Within, Index, Fail, Iota, Sum, Append, Join, Length, Parse, Show, Give, At, IntOr, TextOr, Pass}
use Rattle.plan_shape.specs.Conditions.{IsLawfulJob, is_within}
use Rattle.plan_parts.specs.declared.reading.Reading.TheVariants.{Good, Bad}
use Rattle.plan_parts.specs.declared.reading.TheConstants.{LIMIT_FAULT}
use Rattle.plan_parts.specs.Reading.{mapped}
use Rattle.plan_parts.specs.Objects.{integer_of, number_of}
use Rattle.plan_parts.specs.Scalars.{count_read, name_of, txt_of}
use Rattle.plan_parts.specs.Constants.{constant_of, constants_from, constants_of, numbers_from, with_constant, with_number}
use Rattle.plan_parts.specs.Jobs.{job_of}
use Rattle.plan_writer.specs.Held.{IsLong, IsHeldDatum, AreHeld, IsHeldJob}
use Rattle.plan_writer.specs.Values.{constant_data, integer_data}
use Rattle.plan_writer.specs.Jobs.{job_data}

-- numbers
pub number-back : (n : ℤ) → IsLong n → integer_of (integer_data n) ≡ Some n
number-back (pos n) long =
    let small : n < 2 ^ 63 = long.sfits in
    cond-true (nat_lt n (2 ^ 63)) (Some (pos n)) None (lt-ltb n (2 ^ 63) small)
number-back (negsuc n) long = refl

pub count-back : (fewest most n : ℕ) → fewest ≤ n → n ≤ most → n < 2 ^ 63
    → count_read fewest most (number_of (integer_of (number (unsigned n)))) ≡ Good n
count-back fewest most n low high small =
    let fits : nat_lt n (2 ^ 63) ≡ true = lt-ltb n (2 ^ 63) small in
    let within : is_within fewest most n ≡ true =
    and_from (nat_le fewest n) (nat_le n most) (le-leb fewest n low) (le-leb n most high) in
    ap (λ b. count_read fewest most (number_of (cond b (Some (pos n)) None))) fits
    ∙ cond-true (is_within fewest most n) (Good n) (Bad LIMIT_FAULT) within

numbers-back : (found ns : List ℤ) → length found + length ns ≤ NUMBERS → All IsLong ns
    → numbers_from (Good found) (items_of (map integer_data ns)) ≡ Good (found ++ ns)
numbers-back found [] few long = ap Good (sym (append-nil found))
numbers-back found (n ∷ ns) few long =
    let rest : Items = items_of (map integer_data ns) in
    let room : nat_lt (length found) NUMBERS ≡ true = lt-ltb (length found) NUMBERS (omega arith) in
    ap (λ o. numbers_from (with_number (Good found) o) rest) (number-back n (All-head IsLong n ns long))
    ∙ ap (λ b. numbers_from (cond b (Good (found ++ n ∷ [])) (Bad LIMIT_FAULT)) rest) room
    ∙ numbers-back (found ++ n ∷ []) ns (omega (arith, length-append found (n ∷ []))) (All-tail IsLong n ns long)
    ∙ ap Good (append_assoc found (n ∷ []) ns)

-- texts and names
pub text-back : (text : List ℕ) → IsText text → txt_of text ≡ Good text
text-back text is =
    cond-true (is_text text) (Good text) (Bad LIMIT_FAULT)
    (and_from (is_utf8 text) (nat_le (length text) TEXT_BYTES) (is_utf8-from_IsUtf8 text is.utf8)
    (le-leb (length text) TEXT_BYTES is.short))

pub name-back : (name : List ℕ) → is_error_name name ≡ true → name_of name ≡ Good name
name-back name is = cond-true (is_error_name name) (Good name) _ is

-- constants
constant-back : (c : Datum) → IsConstant c → IsHeldDatum c → constant_of (constant_data c) ≡ Good c
constant-back (Int n) is held = rw (number-back n held) refl
constant-back (Text text) is held = ap (mapped Text) (text-back text held)
constant-back (Row ns) is held = ap (mapped Row) (numbers-back [] ns (let few = held.few in omega arith) held.each)
constant-back c is held = absurd is

each-back : (found cs : List Datum) → length found + length cs ≤ DATA → All IsConstant cs → All IsHeldDatum cs
    → constants_from (Good found) (items_of (map constant_data cs)) ≡ Good (found ++ cs)
each-back found [] few are held = ap Good (sym (append-nil found))
each-back found (c ∷ cs) few are held =
    let rest : Items = items_of (map constant_data cs) in
    let room : nat_lt (length found) DATA ≡ true = lt-ltb (length found) DATA (omega arith) in
    ap (λ r. constants_from (with_constant (Good found) r) rest)
    (constant-back c (All-head IsConstant c cs are) (All-head IsHeldDatum c cs held))
    ∙ ap (λ b. constants_from (cond b (Good (found ++ c ∷ [])) (Bad LIMIT_FAULT)) rest) room
    ∙ each-back (found ++ c ∷ []) cs (omega (arith, length-append found (c ∷ [])))
    (All-tail IsConstant c cs are) (All-tail IsHeldDatum c cs held)
    ∙ ap Good (append_assoc found (c ∷ []) cs)

pub constants-back : (values : List Datum) → All IsConstant values → AreHeld values
    → constants_of (items_of (map constant_data values)) ≡ Good values
constants-back values are held = each-back [] values (let few = held.few in omega arith) are held.each

-- jobs
pub job-back : (job : Job) → IsLawfulJob job → IsHeldJob job → job_of (job_data job) ≡ Good job
job-back (Add n) lawful held = rw (number-back n held) refl
job-back (Sub n) lawful held = rw (number-back n held) refl
job-back (Mul n) lawful held = rw (number-back n held) refl
job-back (Div n) lawful held = rw (number-back n held) refl
job-back Neg lawful held = refl
job-back (Within lo hi) lawful held = rw (number-back lo held.0, number-back hi held.1) refl
job-back Index lawful held = refl
job-back (Fail name) lawful held = ap (mapped Fail) (name-back name lawful)
job-back Iota lawful held = refl
job-back Sum lawful held = refl
job-back (Append text) lawful held = ap (mapped Append) (text-back text held)
job-back Join lawful held = refl
job-back Length lawful held = refl
job-back Parse lawful held = refl
job-back Show lawful held = refl
job-back (Give values) lawful held = ap (mapped Give) (constants-back values lawful held)
job-back (At place) lawful held = ap (mapped At) (count-back 0 63 place (omega arith) (omega arith) (omega arith))
job-back (IntOr n) lawful held = rw (number-back n held) refl
job-back (TextOr text) lawful held = ap (mapped TextOr) (text-back text held)
job-back Pass lawful held = refl
