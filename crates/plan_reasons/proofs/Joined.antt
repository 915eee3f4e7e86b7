-- Texts one after the other, with a separator between them.
use Rattle.std.specs.Prelude.{flat_map}
use Rattle.std.specs.List.{join_by}
use Rattle.std.proofs.Common.{◌≡◌, List, [], ◌∷◌, ◌++◌, map, refl, ap}

behind : {X A : Type 0} (f : X → List A) (sep : List A) (xs : List X)
    → flat_map (λ x. sep ++ f x) xs ≡ flat_map (λ y. sep ++ y) (map f xs)
behind f sep [] = refl
behind f sep (x ∷ xs) = ap (λ rest. (sep ++ f x) ++ rest) (behind f sep xs)

-- of what a function gives for each
pub joined_map : {X A : Type 0} (f : X → List A) (sep : List A) (xs : List X)
    → join_by f sep xs ≡ join_by (λ y. y) sep (map f xs)
joined_map f sep [] = refl
joined_map f sep (x ∷ xs) = ap (λ rest. f x ++ rest) (behind f sep xs)
