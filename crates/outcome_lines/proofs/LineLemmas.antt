-- What the parts of a line are made of.
use Rattle.std.proofs.Common.{◌≡◌, ℕ, suc, ◌+◌, ◌-◌, true, ℤ, pos, ◌<◌, ◌≤◌, List, [], ◌∷◌, ◌++◌, map, length, take, drop, get_or, length-take, get_or-take, get_or-drop, codes, refl, inl, inr, subst, ap, ◌∙◌, sym, append_assoc, append-nil, arith}
use Rattle.std.specs.Fmt.{signed_decimal}
use Rattle.std.specs.List.{flat_map, join_with_byte}
use Rattle.std.proofs.lemmas.Bool.{cond-true, cases_lt}
use Rattle.std.proofs.lemmas.Grind.{flat_map-append}
use Rattle.std.proofs.Math.Seq.{take-add}
use Rattle.exec_value.specs.Bytes.{comma}
use Rattle.outcome_lines.specs.Line.{row_text, is_plain, escape_of, escaped}

-- pieces with a byte between them: the first, and each later one behind the byte
pub join_with_byte-cons : {X : Type 0} (c : ℕ) (f : X → List ℕ) (x : X) (xs : List X) → join_with_byte c (map f (x ∷ xs)) ≡ f x ++ flat_map (λ y. c ∷ f y) xs
join_with_byte-cons c f x [] = sym (append-nil (f x))
join_with_byte-cons c f x (y ∷ ys) = ap (λ (l : List ℕ). f x ++ c ∷ l) (join_with_byte-cons c f y ys)

-- a row of one number or more
pub row_text-cons : (numbers : List ℤ) → 0 < length numbers → row_text numbers ≡ codes "[" ++ (signed_decimal (get_or numbers 0 (pos 0)) ++ (flat_map (λ n. comma ∷ signed_decimal n) (drop 1 numbers) ++ codes "]"))
row_text-cons [] some = absurd (omega arith)
row_text-cons (n ∷ ns) some =
    ap (λ (l : List ℕ). codes "[" ++ (l ++ codes "]")) (join_with_byte-cons comma signed_decimal n ns)
    ∙ ap (λ (l : List ℕ). codes "[" ++ l) (append_assoc (signed_decimal n) (flat_map (λ n. comma ∷ signed_decimal n) ns) (codes "]"))

-- what is plain stands as it is
pub escaped-plain : (xs : List ℕ) → ((k : ℕ) → k < length xs → is_plain (get_or xs k 0) ≡ true) → flat_map escaped xs ≡ xs
escaped-plain [] plain = refl
escaped-plain (x ∷ xs) plain =
    let first : escaped x ≡ x ∷ [] = cond-true (is_plain x) (x ∷ []) (escape_of x) (plain 0 (omega arith)) in
    ap (λ (l : List ℕ). l ++ flat_map escaped xs) first
    ∙ ap (λ (l : List ℕ). x ∷ l) (escaped-plain xs (λ k below. plain (suc k) (omega arith)))

-- what was shown up to a place, and then bytes that are plain
pub escaped-run : (bytes : List ℕ) (start at : ℕ) → start ≤ at → ((k : ℕ) → start ≤ k → k < at → is_plain (get_or bytes k 0) ≡ true) → flat_map escaped (take start bytes) ++ take (at - start) (drop start bytes) ≡ flat_map escaped (take at bytes)
escaped-run bytes start at behind plain =
    let run = take (at - start) (drop start bytes) in
    let each : (k : ℕ) → k < length run → is_plain (get_or run k 0) ≡ true =
    λ k below. let short : k < at - start = omega (arith, length-take (at - start) (drop start bytes)) in
    rw (get_or-take, get_or-drop) (plain (start + k) (omega arith) (omega arith)) in
    let whole : start + (at - start) ≡ at = omega arith in
    ap (λ (l : List ℕ). flat_map escaped (take start bytes) ++ l) (sym (escaped-plain run each))
    ∙ sym (flat_map-append escaped (take start bytes) run)
    ∙ ap (flat_map escaped) (sym (take-add start (at - start) bytes))
    ∙ ap (λ (n : ℕ). flat_map escaped (take n bytes)) whole

-- one plain byte more
pub plain_more : (bytes : List ℕ) (start at : ℕ) → ((k : ℕ) → start ≤ k → k < at → is_plain (get_or bytes k 0) ≡ true) → is_plain (get_or bytes at 0) ≡ true → (k : ℕ) → start ≤ k → k < at + 1 → is_plain (get_or bytes k 0) ≡ true
plain_more bytes start at plain here k above below =
    elim (cases_lt k at) [
      | inl before ↦ plain k above before
      | inr not_before ↦ let same : at ≡ k = omega arith in subst (λ (n : ℕ). is_plain (get_or bytes n 0) ≡ true) same here
    ]
