-- How sums are made of sums.
use Rattle.std.proofs.Common.{◌≡◌, ℕ, ◌+◌, ◌<◌, ℤ, pos, ◌+ℤ◌, List, [], ◌∷◌, ◌++◌, length, take, get_or, fold, append-nil, sym, ap, ◌∙◌, arith}
use Rattle.std.specs.List.{flat_map}
use Rattle.std.proofs.lemmas.Int.{ints}
use Rattle.std.proofs.lemmas.List.{take_more}
use Rattle.std.proofs.lemmas.List.Sums.{fold-append}
use Rattle.std.proofs.lemmas.Grind.{flat_map-append}
use Rattle.exec_value.specs.declared.data.Datum.{Datum}
use Rattle.exec_value.specs.Sum.{total, numbers_of, sum_of_data}

-- a sum that begins at a number
fold-from : (a : ℤ) (xs : List ℤ) → fold ◌+ℤ◌ a xs ≡ a +ℤ total xs
fold-from a [] = omega (arith, ints)
fold-from a (x ∷ xs) =
    let far = fold-from (a +ℤ x) xs in
    let near = fold-from (pos 0 +ℤ x) xs in
    omega (arith, ints, far, near)

-- numbers and then others
pub total-append : (xs ys : List ℤ) → total (xs ++ ys) ≡ total xs +ℤ total ys
total-append xs ys = fold-append ◌+ℤ◌ (pos 0) xs ys ∙ fold-from (total xs) ys

-- one datum more
pub sum_of_data_more : (values : List Datum) (i : ℕ) (datum d : Datum) → datum ≡ get_or values i d → i < length values → sum_of_data (take (i + 1) values) ≡ sum_of_data (take i values) +ℤ total (numbers_of datum)
sum_of_data_more values i datum d is here =
    ap (λ (l : List Datum). sum_of_data l) (take_more values i d here)
    ∙ ap (λ y. sum_of_data (take i values ++ y ∷ [])) (sym is)
    ∙ ap total (flat_map-append numbers_of (take i values) (datum ∷ []))
    ∙ total-append (flat_map numbers_of (take i values)) (numbers_of datum ++ [])
    ∙ ap (λ (l : List ℤ). total (flat_map numbers_of (take i values)) +ℤ total l) (append-nil (numbers_of datum))
