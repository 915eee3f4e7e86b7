-- Equal neighbours of a list, folded.
use Rattle.std.specs.Prelude.{ℕ, ◌+◌, List, [], ◌∷◌, ◌++◌, bytes_eq, codes, decimal, get_or, map, nat_lt, if◌then◌else◌}
use Rattle.std.specs.List.{flat_map}
use Rattle.std.specs.declared.alloc.Global.{Global}
use Rattle.std.specs.declared.vec.Vec.{Vec}
use Rattle.pictures.specs.declared.plans.folds.Fold.{Fold}

-- what texts say
abbrev pub texts_of : List (Vec ℕ Global) → List (List ℕ)
texts_of texts = map (λ (text : Vec ℕ Global). text.items) texts

-- the folds of `count` neighbours from index `at` on, which are all this text, and of later ones
abbrev pub folds_from : ℕ → ℕ → List ℕ → List (List ℕ) → List Fold
folds_from at count text [] = record { at = at; count = count } ∷ []
folds_from at count text (next ∷ later) =
    if bytes_eq next text then folds_from at (count + 1) text later
    else record { at = at; count = count } ∷ folds_from (at + count) 1 next later

-- the folds of texts, in order: each is of equal neighbours, and of as many as there are
abbrev pub folds_of : List (List ℕ) → List Fold
folds_of [] = []
folds_of (first ∷ later) = folds_from 0 1 first later

-- how many there are, where they are more than one
abbrev pub times_text : ℕ → List ℕ
times_text count = if nat_lt count 2 then [] else codes " x" ++ decimal count

-- the text of a fold: a blank, what its neighbours are, and how many
abbrev pub one_folded : List (List ℕ) → Fold → List ℕ
one_folded texts fold = codes " " ++ (get_or texts fold.at [] ++ times_text fold.count)

-- texts, each behind a blank, and equal neighbours once
unfoldable pub folded_text : List (List ℕ) → List ℕ
folded_text texts = flat_map (one_folded texts) (folds_of texts)
