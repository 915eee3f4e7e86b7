-- That all constants that are read are ints, texts and rows.
use Rattle.std.proofs.Common.{◌≡◌, ℕ, ℤ, Bool, true, false, List, [], ◌∷◌, ◌++◌, length, nat_lt, All, Option, Some, None, cond, subst, sym}
use Rattle.std.proofs.lemmas.List.Elements.{All-push}
use Rattle.std.specs.Option.{option_or}
use Rattle.std.specs.Prelude.{option_map, unwrap_or}
use Rattle.serde_json.specs.Data.{Data, Items}
use Rattle.serde_json.specs.Find.{as_str, as_array}
use Rattle.exec_value.specs.Kinds.{IsConstant}
use Rattle.exec_value.specs.declared.data.Datum.{Datum}
use Rattle.exec_value.specs.declared.data.Datum.TheVariants.{Int, Text, Row}
use Rattle.exec_value.specs.declared.limits.TheConstants.{DATA}
use Rattle.plan_parts.specs.declared.reading.Reading.{Reading}
use Rattle.plan_parts.specs.declared.reading.Reading.TheVariants.{Good, Bad}
use Rattle.plan_parts.specs.declared.reading.TheConstants.{FORM_FAULT, LIMIT_FAULT}
use Rattle.plan_parts.specs.Reading.{IfGood, mapped}
use Rattle.plan_parts.specs.Objects.{integer_of}
use Rattle.plan_parts.specs.Scalars.{txt_of}
use Rattle.plan_parts.specs.Constants.{numbers_from, constant_of, row_of, text_datum, with_constant}

IfGood-mapped : {A : Type 0} (f : A → Datum) (P : Datum → Type 0) (r : Reading A)
    → ((a : A) → P (f a)) → IfGood (mapped f r) P
IfGood-mapped f P (Good a) h = h a
IfGood-mapped f P (Bad faults) h = tt

one_of_three : (n : Option ℤ) (s : Option (List ℕ)) (a : Option Items)
    → IfGood (unwrap_or (option_or (option_map (λ n. Good (Int n)) n)
    (option_or (option_map text_datum s) (option_map row_of a))) (Bad FORM_FAULT)) IsConstant
one_of_three (Some n) s a = tt
one_of_three None (Some t) a = IfGood-mapped Text IsConstant (txt_of t) (λ x. tt)
one_of_three None None (Some ds) = IfGood-mapped Row IsConstant (numbers_from (Good []) ds) (λ x. tt)
one_of_three None None None = tt

IsConstant-constant_of : (d : Data) → IfGood (constant_of d) IsConstant
IsConstant-constant_of d = one_of_three (integer_of d) (as_str d) (as_array d)

if_room : (b : Bool) (cs : List Datum) → All IsConstant cs
    → IfGood (cond b (Good cs) (Bad LIMIT_FAULT)) (All IsConstant)
if_room true cs all = all
if_room false cs all = tt

All-with_constant : (found : Reading (List Datum)) (next : Reading Datum)
    → IfGood found (All IsConstant) → IfGood next IsConstant
    → IfGood (with_constant found next) (All IsConstant)
All-with_constant (Good cs) (Good c) all is =
    if_room (nat_lt (length cs) DATA) (cs ++ c ∷ []) (All-push IsConstant cs c all is)
All-with_constant (Good cs) (Bad faults) all is = tt
All-with_constant (Bad faults) (Good c) all is = tt
All-with_constant (Bad faults) (Bad others) all is = tt

-- one constant more
pub constants_more : (found new : Reading (List Datum)) (next : Reading Datum) (d : Data)
    → IfGood found (All IsConstant) → next ≡ constant_of d → new ≡ with_constant found next
    → IfGood new (All IsConstant)
constants_more found new next d all is more =
    let P : Reading Datum → Type 0 = λ r. IfGood r IsConstant in
    let Q : Reading (List Datum) → Type 0 = λ r. IfGood r (All IsConstant) in
    subst Q (sym more) (All-with_constant found next all (subst P (sym is) (IsConstant-constant_of d)))
