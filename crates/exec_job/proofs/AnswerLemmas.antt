-- When a call may end for want of memory.
use Rattle.std.proofs.Common.{◌≡◌, ℕ, ◌<◌, ◌≤◌, false, inl, inr, List, [], ◌∷◌, length, get_or, Option, Some, Result, Ok, Err, refl, ap, subst, sym, leb, arith}
use Rattle.std.specs.Prelude.{slice_get}
use Rattle.std.specs.Option.{option_to_list}
use Rattle.std.proofs.lemmas.Option.{slice_get_read}
use Rattle.std.specs.Result.{IsErr, IsOk, is_ok}
use Rattle.std.specs.declared.alloc.AllocError.{AllocError}
use Rattle.std.proofs.lemmas.Bool.{cond-true, cases_lt, le-leb}
use Rattle.std.proofs.lemmas.List.Elements.{All-head}
use Rattle.exec_value.specs.Place.{IsInPlace}
use Rattle.exec_value.specs.declared.limits.TheConstants.{INLINE_BYTES, TEXT_BYTES}
use Rattle.exec_value.specs.declared.data.Datum.{Datum}
use Rattle.exec_value.specs.declared.data.Datum.TheVariants.{Text}
use Rattle.exec_value.specs.declared.outcome.Completion.{Completion}
use Rattle.exec_value.specs.declared.outcome.Completion.TheVariants.{Value}
use Rattle.exec_job.specs.Answer.{Answer, EndsInPlace, Gives, ending, text_answer}

-- it may, where the answer doesn't stand in place
pub Gives-no_memory : (answer : Answer) (r : Result Completion AllocError) → IsErr r → ¬ (EndsInPlace answer) → Gives answer r
Gives-no_memory answer (Ok completion) err large = cc
Gives-no_memory answer (Err e) err large = record { exact = tt; in_place = λ small. absurd (large small) }

-- a text of more bytes than stand in place doesn't
pub long_text : (bytes : List ℕ) → length bytes ≤ TEXT_BYTES → INLINE_BYTES < length bytes → ¬ (EndsInPlace (text_answer bytes))
long_text bytes short long place =
    let whole = cond-true (leb (length bytes) TEXT_BYTES) (Ok (Text bytes ∷ [])) (Err _) (le-leb (length bytes) TEXT_BYTES short) in
    let here : EndsInPlace (Ok (Text bytes ∷ [])) = subst EndsInPlace whole place in
    omega (arith, long, All-head IsInPlace (Text bytes) [] here.each)

-- what was refused has more bytes than that
pub more_than : (r : Result (Unit {0}) AllocError) (n : ℕ) → is_ok r ≡ false → (n ≤ INLINE_BYTES → IsOk r) → INLINE_BYTES < n
more_than r n err small =
    elim (cases_lt INLINE_BYTES n) [ inl long ↦ long | inr short ↦ let ok = small short in cc ]

-- the answer of a place in data
abbrev given : Option Datum → Answer
given item = Ok (option_to_list item)

at_place : (values : List Datum) (i : ℕ) (item : Datum) → item ≡ get_or values i item → i < length values → given (slice_get values i) ≡ given (Some item)
at_place values i item is here = ap given (slice_get_read values (length values) i item refl here is)

pub Gives-at : (values : List Datum) (i : ℕ) (item : Datum) (completion : Completion) → item ≡ get_or values i item → i < length values → completion ≡ Value (item ∷ []) → Gives (Ok (option_to_list (slice_get values i))) (Ok completion)
Gives-at values i item completion is here made =
    let exact : completion ≡ ending (Ok (item ∷ [])) = made in
    subst (λ (a : Answer). Gives a (Ok completion)) (sym (at_place values i item is here)) (record { exact = exact; in_place = λ place. refl })

-- where a datum that doesn't stand in place wants memory
pub Gives-at_stop : (values : List Datum) (i : ℕ) (item : Datum) (r : Result Completion AllocError) → item ≡ get_or values i item → i < length values → IsErr r → ¬ (IsInPlace item) → Gives (Ok (option_to_list (slice_get values i))) r
Gives-at_stop values i item r is here err large =
    subst (λ (a : Answer). Gives a r) (sym (at_place values i item is here))
    (Gives-no_memory (Ok (item ∷ [])) r err (λ place. large (All-head IsInPlace item [] place.each)))
