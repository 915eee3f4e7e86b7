-- How the numbers of a row are read part by part.
use Rattle.std.proofs.Common.{◌≡◌, ℕ, suc, ◌<◌, ◌≤◌, leb, List, [], ◌∷◌, ◌++◌, length, take, drop, drop-cons, get_or, Option, Some, None, ℤ, refl, sym, ap, ◌∙◌, subst, inl, inr, length-append, arith}
use Rattle.std.specs.Option.{option_map, option_and_then}
use Rattle.std.specs.List.{slice_split}
use Rattle.std.specs.Prelude.{◌==◌}
use Rattle.std.proofs.lemmas.Bool.{cond-true, cond-false, cases_Bool, le-leb, leb-true, leb-false, lt-leb}
use Rattle.std.proofs.lemmas.List.{take-append-drop}
use Rattle.exec_value.specs.Bytes.{comma}
use Rattle.exec_value.specs.Number.{int_of}
use Rattle.exec_value.specs.Record.{ints_of, within_row, with_number, comma_parts}
use Rattle.exec_value.specs.declared.limits.TheConstants.{NUMBERS}

-- one list and then another, where both are there
abbrev both : Option (List ℤ) → Option (List ℤ) → Option (List ℤ)
both xs ys = option_and_then (λ a. option_map (λ b. a ++ b) ys) xs

-- what has room in a row
pub within_row-few : (numbers : List ℤ) → length numbers ≤ NUMBERS → within_row numbers ≡ Some numbers
within_row-few numbers few = cond-true (leb (length numbers) NUMBERS) (Some numbers) None (le-leb (length numbers) NUMBERS few)

within_row-many : (numbers : List ℤ) → NUMBERS < length numbers → within_row numbers ≡ None
within_row-many numbers many = cond-false (leb (length numbers) NUMBERS) (Some numbers) None (lt-leb (length numbers) NUMBERS many)

within_row-some : (numbers more : List ℤ) → within_row numbers ≡ Some more → (numbers ≡ more) × (length numbers ≤ NUMBERS)
within_row-some numbers more e =
    elim (cases_Bool (leb (length numbers) NUMBERS)) [
      | inl few ↦ let same : Some numbers ≡ Some more = sym (within_row-few numbers (leb-true (length numbers) NUMBERS few)) ∙ e in (cc, leb-true (length numbers) NUMBERS few)
      | inr many ↦ let none : None ≡ Some more = sym (cond-false (leb (length numbers) NUMBERS) (Some numbers) None many) ∙ e in cc
    ]

within_row-none : (numbers : List ℤ) → within_row numbers ≡ None → NUMBERS < length numbers
within_row-none numbers e =
    elim (cases_Bool (leb (length numbers) NUMBERS)) [
      | inl few ↦ let some : Some numbers ≡ None = sym (within_row-few numbers (leb-true (length numbers) NUMBERS few)) ∙ e in cc
      | inr many ↦ leb-false (length numbers) NUMBERS many
    ]

both-cons : (o : Option ℤ) (xs ys : Option (List ℤ)) → option_and_then (λ n. option_map (λ rest. n ∷ rest) (both xs ys)) o ≡ both (option_and_then (λ n. option_map (λ rest. n ∷ rest) xs) o) ys
both-cons None xs ys = refl
both-cons (Some n) None ys = refl
both-cons (Some n) (Some a) None = refl
both-cons (Some n) (Some a) (Some b) = refl

both-nil : (ys : Option (List ℤ)) → ys ≡ both (Some []) ys
both-nil None = refl
both-nil (Some b) = refl

-- the numbers of some parts and then others
ints_of-append : (xs ys : List (List ℕ)) → ints_of (xs ++ ys) ≡ both (ints_of xs) (ints_of ys)
ints_of-append [] ys = both-nil (ints_of ys)
ints_of-append (x ∷ xs) ys =
    ap (λ (o : Option (List ℤ)). option_and_then (λ n. option_map (λ rest. n ∷ rest) o) (int_of x)) (ints_of-append xs ys)
    ∙ both-cons (int_of x) (ints_of xs) (ints_of ys)

number_more : (ns ms : List ℤ) (o : Option ℤ) → option_and_then (λ n. within_row (ns ++ n ∷ [])) o ≡ Some ms → (option_map (λ b. ns ++ b) (option_and_then (λ n. Some (n ∷ [])) o) ≡ Some ms) × (length ms ≤ NUMBERS)
number_more ns ms None e = cc
number_more ns ms (Some n) e =
    let p = within_row-some (ns ++ n ∷ []) ms e in
    (ap (λ (l : List ℤ). Some l) p.0, subst (λ (l : List ℤ). length l ≤ NUMBERS) p.0 p.1)

number_stop : (ns : List ℤ) (o : Option ℤ) (later : Option (List ℤ)) → option_and_then (λ n. within_row (ns ++ n ∷ [])) o ≡ None → option_and_then within_row (option_map (λ b. ns ++ b) (option_and_then (λ n. option_map (λ rest. n ∷ rest) later) o)) ≡ None
number_stop ns None later e = refl
number_stop ns (Some n) None e = refl
number_stop ns (Some n) (Some b) e =
    within_row-many (ns ++ n ∷ b)
    (omega (arith, within_row-none (ns ++ n ∷ []) e, length-append ns (n ∷ []), length-append ns (n ∷ b)))

-- one part more
pub ints_of-push : (xs : List (List ℕ)) (part : List ℕ) (ns ms : List ℤ) → ints_of xs ≡ Some ns → with_number ns part ≡ Some ms → (ints_of (xs ++ part ∷ []) ≡ Some ms) × (length ms ≤ NUMBERS)
ints_of-push xs part ns ms so_far more =
    let p = number_more ns ms (int_of part) more in
    (ints_of-append xs (part ∷ []) ∙ ap (λ (o : Option (List ℤ)). both o (ints_of (part ∷ []))) so_far ∙ p.0, p.1)

-- a part that gives no number, or one too many
pub ints_of-stop : (parts : List (List ℕ)) (k : ℕ) (part : List ℕ) (ns : List ℤ) → ints_of (take k parts) ≡ Some ns → k < length parts → part ≡ get_or parts k part → with_number ns part ≡ None → option_and_then within_row (ints_of parts) ≡ None
ints_of-stop parts k part ns so_far here is stop =
    let later = drop (suc k) parts in
    let whole : take k parts ++ part ∷ later ≡ parts =
    ap (λ (p : List ℕ). take k parts ++ p ∷ later) is
    ∙ ap (λ (l : List (List ℕ)). take k parts ++ l) (sym (drop-cons parts k part here))
    ∙ take-append-drop k parts in
    let e : ints_of parts ≡ both (Some ns) (ints_of (part ∷ later)) =
    ap ints_of (sym whole) ∙ ints_of-append (take k parts) (part ∷ later) ∙ ap (λ (o : Option (List ℤ)). both o (ints_of (part ∷ later))) so_far in
    ap (option_and_then within_row) e ∙ number_stop ns (int_of part) (ints_of later) stop

-- what isn't empty has the parts that a split gives
pub comma_parts-some : (bytes : List ℕ) → 0 < length bytes → comma_parts bytes ≡ slice_split (λ b. b == comma) bytes
comma_parts-some [] some = absurd (omega arith)
comma_parts-some (b ∷ bs) some = refl
