-- That a part of a file that wasn't read names a fault.
use Rattle.std.proofs.Common.{◌≡◌, ℕ, ℤ, pos, negsuc, Bool, true, false, cond, List, [], ◌∷◌, ◌++◌, length, nat_lt, Option, Some, None, refl}
use Rattle.std.specs.Prelude.{⊤, ◌||◌, ◌&&◌, codes, option_map, option_and_then, unwrap_or}
use Rattle.std.specs.Option.{option_map_or, option_or}
use Rattle.std.specs.List.{list_all}
use Rattle.std.proofs.lemmas.Bool.{false≢true}
use Rattle.serde_json.specs.Data.{Data, Items, no_items, item}
use Rattle.serde_json.specs.Find.{get, as_str, as_array}
use Rattle.exec_value.specs.ErrorName.{is_error_name, is_name_byte}
use Rattle.exec_value.specs.Text.{is_text}
use Rattle.exec_value.specs.declared.data.Datum.{Datum}
use Rattle.exec_value.specs.declared.data.Datum.TheVariants.{Int, Text, Row}
use Rattle.exec_value.specs.declared.limits.TheConstants.{DATA, NUMBERS, ERROR_NAME_BYTES}
use Rattle.exec_job.specs.declared.job.Job.TheVariants as job
use Rattle.plan_shape.specs.Conditions.{is_within}
use Rattle.plan_parts.specs.declared.reading.Faults.{Faults}
use Rattle.plan_parts.specs.declared.reading.Reading.{Reading}
use Rattle.plan_parts.specs.declared.reading.Reading.TheVariants.{Good, Bad}
use Rattle.plan_parts.specs.declared.reading.TheConstants.{FORM_FAULT, NAME_FAULT, LIMIT_FAULT}
use Rattle.plan_parts.specs.declared.job_word.JobWord.{JobWord}
use Rattle.plan_parts.specs.declared.job_word.JobWord.TheVariants.{Plain, Arithmetic, Within, Fail, Append, Give, At, ValueOr}
use Rattle.plan_parts.specs.declared.scalar.TheConstants.{MOST_PLACE}
use Rattle.plan_parts.specs.Reading.{any_fault, blamed, both, known, mapped, paired}
use Rattle.plan_parts.specs.Objects.{has_unknown_key, integer_of, number_at, number_of, text_at}
use Rattle.plan_parts.specs.Scalars.{count_at, count_read, name_at, name_of, txt_of}
use Rattle.plan_parts.specs.Constants.{constant_of, constants_at, constants_from, constants_of, numbers_from, row_of, text_datum, with_constant, with_number}
use Rattle.plan_parts.specs.JobWords.{job_keys, job_named}
use Rattle.plan_parts.specs.Jobs.{arithmetic_job, default_of, default_text, job_at, job_of, job_parts, known_job, within_job}

any-bits : (a b c d e f : Bool) → (d || e || f) ≡ true → ((a || d) || (b || e) || (c || f)) ≡ true
any-bits true b c d e f h = refl
any-bits false b c true e f h = refl
any-bits false true c false e f h = refl
any-bits false false c false true f h = refl
any-bits false false true false false f h = refl
any-bits false false false false false true h = refl
any-bits false false false false false false h = h

-- faults that are added are there
pub any-both : (f g : Faults) → any_fault g ≡ true → any_fault (both f g) ≡ true
any-both f g h = any-bits f.form f.name f.limit g.form g.name g.limit h

any-first : (a b c d e f : Bool) → (a || b || c) ≡ true → ((a || d) || (b || e) || (c || f)) ≡ true
any-first true b c d e f h = refl
any-first false b c true e f h = refl
any-first false true c false e f h = refl
any-first false false c false true f h = refl
any-first false false true false false f h = refl
any-first false false false false false f h = absurd (false≢true h)

any-before : (f g : Faults) → any_fault f ≡ true → any_fault (both f g) ≡ true
any-before f g h = any-first f.form f.name f.limit g.form g.name g.limit h

-- a value was read, or a fault is named
abbrev pub Tells : {A : Type 0} → Reading A → Type 0
Tells (Good a) = ⊤
Tells (Bad faults) = any_fault faults ≡ true

pub tells-mapped : {A B : Type 0} (f : A → B) (r : Reading A) → Tells r → Tells (mapped f r)
tells-mapped f (Good a) t = tt
tells-mapped f (Bad faults) t = t

tells-paired : {A B : Type 0} (r : Reading A) (s : Reading B) → Tells r → Tells s → Tells (paired r s)
tells-paired (Good a) (Good b) t u = tt
tells-paired (Good a) (Bad faults) t u = u
tells-paired (Bad faults) (Good b) t u = t
tells-paired (Bad faults) (Bad others) t u = any-before faults others t

tells-blamed : {A : Type 0} (faults : Faults) (r : Reading A) → any_fault faults ≡ true
    → Tells (blamed faults r)
tells-blamed faults (Good a) is = is
tells-blamed faults (Bad own) is = any-before faults own is

tells-if : {A : Type 0} (b : Bool) (r s : Reading A) → Tells r → Tells s → Tells (cond b r s)
tells-if true r s t u = t
tells-if false r s t u = u

tells-or : {A B : Type 0} (f : A → Reading B) (o : Option A) → ((a : A) → Tells (f a))
    → Tells (option_map_or f o (Bad FORM_FAULT))
tells-or f (Some a) t = t a
tells-or f None t = refl

pub tells-known : {A : Type 0} (o : Option A) → Tells (known o)
tells-known (Some a) = tt
tells-known None = refl

pub tells-word : {A : Type 0} (f : List ℕ → Reading A) (key : List ℕ) (d : Data)
    → ((name : List ℕ) → Tells (f name)) → Tells (option_map_or f (text_at key d) (Bad FORM_FAULT))
tells-word f key d t = tells-or f (text_at key d) t

-- numbers
tells-number_of : (o : Option ℤ) → Tells (number_of o)
tells-number_of (Some n) = tt
tells-number_of None = refl

tells-number_at : (key : List ℕ) (d : Data) → Tells (number_at key d)
tells-number_at key d = tells-number_of (option_and_then integer_of (get key d))

tells-count_read : (fewest most : ℕ) (r : Reading ℤ) → Tells r → Tells (count_read fewest most r)
tells-count_read fewest most (Good (pos n)) t =
    tells-if (is_within fewest most n) (Good n) (Bad LIMIT_FAULT) tt refl
tells-count_read fewest most (Good (negsuc n)) t = refl
tells-count_read fewest most (Bad faults) t = t

pub tells-count_at : (key : List ℕ) (fewest most : ℕ) (d : Data) → Tells (count_at key fewest most d)
tells-count_at key fewest most d = tells-count_read fewest most (number_at key d) (tells-number_at key d)

-- names and texts
tells-name : (is long : Bool) (name : List ℕ)
    → Tells (cond is (Good name) (cond long (Bad LIMIT_FAULT) (Bad FORM_FAULT)))
tells-name true long name = tt
tells-name false true name = refl
tells-name false false name = refl

pub tells-name_at : (key : List ℕ) (d : Data) → Tells (name_at key d)
tells-name_at key d =
    tells-word name_of key d
    (λ name. tells-name (is_error_name name) (nat_lt ERROR_NAME_BYTES (length name) && list_all is_name_byte name) name)

tells-txt_of : (text : List ℕ) → Tells (txt_of text)
tells-txt_of text = tells-if (is_text text) (Good text) (Bad LIMIT_FAULT) tt refl

-- constants
tells-with_number : (found : Reading (List ℤ)) (o : Option ℤ) → Tells found → Tells (with_number found o)
tells-with_number (Good ns) (Some n) t = tells-if (nat_lt (length ns) NUMBERS) (Good (ns ++ n ∷ [])) (Bad LIMIT_FAULT) tt refl
tells-with_number (Bad faults) (Some n) t = t
tells-with_number (Good ns) None t = tells-blamed FORM_FAULT (Good ns) refl
tells-with_number (Bad faults) None t = tells-blamed {A = List ℤ} FORM_FAULT (Bad faults) refl

tells-numbers_from : (found : Reading (List ℤ)) (ds : Items) → Tells found → Tells (numbers_from found ds)
tells-numbers_from found no_items t = t
tells-numbers_from found (item d ds) t =
    tells-numbers_from (with_number found (integer_of d)) ds (tells-with_number found (integer_of d) t)

tells-one_of_three : (n : Option ℤ) (s : Option (List ℕ)) (a : Option Items)
    → Tells (unwrap_or (option_or (option_map (λ n. Good (Int n)) n)
    (option_or (option_map text_datum s) (option_map row_of a))) (Bad FORM_FAULT))
tells-one_of_three (Some n) s a = tt
tells-one_of_three None (Some text) a = tells-mapped Text (txt_of text) (tells-txt_of text)
tells-one_of_three None None (Some ds) =
    tells-mapped Row (numbers_from (Good []) ds) (tells-numbers_from (Good []) ds tt)
tells-one_of_three None None None = refl

tells-with_constant : (found : Reading (List Datum)) (next : Reading Datum) → Tells found → Tells next
    → Tells (with_constant found next)
tells-with_constant (Good cs) (Good c) t u = tells-if (nat_lt (length cs) DATA) (Good (cs ++ c ∷ [])) (Bad LIMIT_FAULT) tt refl
tells-with_constant (Bad faults) (Good c) t u = t
tells-with_constant (Good cs) (Bad faults) t u = u
tells-with_constant (Bad own) (Bad faults) t u = any-before faults own u

tells-constants_from : (found : Reading (List Datum)) (ds : Items) → Tells found
    → Tells (constants_from found ds)
tells-constants_from found no_items t = t
tells-constants_from found (item d ds) t =
    tells-constants_from (with_constant found (constant_of d)) ds
    (tells-with_constant found (constant_of d) t
    (tells-one_of_three (integer_of d) (as_str d) (as_array d)))

pub tells-constants_at : (key : List ℕ) (d : Data) → Tells (constants_at key d)
tells-constants_at key d =
    tells-or constants_of (option_and_then as_array (get key d))
    (λ ds. tells-constants_from (Good []) ds tt)

-- jobs
tells-default : (n : Option ℤ) (s : Option (List ℕ))
    → Tells (unwrap_or (option_or (option_map (λ n. Good (job.IntOr n)) n) (option_map default_text s))
    (Bad FORM_FAULT))
tells-default (Some n) s = tt
tells-default None (Some text) = tells-mapped job.TextOr (txt_of text) (tells-txt_of text)
tells-default None None = refl

tells-job_parts : (word : JobWord) (d : Data) → Tells (job_parts word d)
tells-job_parts (Plain plain) d = tt
tells-job_parts (Arithmetic arithmetic) d =
    tells-mapped (arithmetic_job arithmetic) (number_at (codes "n") d) (tells-number_at (codes "n") d)
tells-job_parts Within d =
    let low = tells-number_at (codes "lo") d in
    let high = tells-number_at (codes "hi") d in
    tells-mapped within_job (paired (number_at (codes "lo") d) (number_at (codes "hi") d))
    (tells-paired (number_at (codes "lo") d) (number_at (codes "hi") d) low high)
tells-job_parts Fail d = tells-mapped job.Fail (name_at (codes "error") d) (tells-name_at (codes "error") d)
tells-job_parts Append d =
    tells-word (λ text. mapped job.Append (txt_of text)) (codes "text") d
    (λ text. tells-mapped job.Append (txt_of text) (tells-txt_of text))
tells-job_parts Give d =
    tells-mapped job.Give (constants_at (codes "values") d) (tells-constants_at (codes "values") d)
tells-job_parts At d =
    tells-mapped job.At (count_at (codes "i") 0 MOST_PLACE d) (tells-count_at (codes "i") 0 MOST_PLACE d)
tells-job_parts ValueOr d =
    tells-or default_of (get (codes "else") d) (λ s. tells-default (integer_of s) (as_str s))

tells-known_job : (word : JobWord) (d : Data) → Tells (known_job word d)
tells-known_job word d =
    tells-if (has_unknown_key (job_keys word) d) (blamed NAME_FAULT (job_parts word d)) (job_parts word d)
    (tells-blamed NAME_FAULT (job_parts word d) refl) (tells-job_parts word d)

tells-job_named : (o : Option JobWord) (d : Data)
    → Tells (option_map_or (λ word. known_job word d) o (Bad NAME_FAULT))
tells-job_named (Some word) d = tells-known_job word d
tells-job_named None d = refl

pub tells-job_at : (key : List ℕ) (d : Data) → Tells (job_at key d)
tells-job_at key d =
    tells-or job_of (get key d)
    (λ value. tells-word (λ name. option_map_or (λ word. known_job word value) (job_named name) (Bad NAME_FAULT))
    (codes "job") value (λ name. tells-job_named (job_named name) value))
