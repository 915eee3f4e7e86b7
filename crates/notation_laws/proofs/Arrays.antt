-- Pieces in an array are the JSON of an array.
use Rattle.std.proofs.Common.{◌≡◌, ℕ, true, false, List, [], ◌∷◌, ◌++◌, map, codes, append_assoc, refl, ap, ◌∙◌}
use Rattle.serde_json.specs.Data.{Data, array}
use Rattle.serde_json.specs.View.{items_of}
use Rattle.serde_json.specs.Written.{compact_text, items_text as json_items}
use Rattle.plan_notation.specs.Assembled.{array_text, items_text, later_items_text}

later_json : (ds : List Data) → later_items_text (map compact_text ds) ++ codes "]" ≡ json_items true (items_of ds)
later_json [] = refl
later_json (d ∷ ds) =
    append_assoc (codes "," ++ compact_text d) (later_items_text (map compact_text ds)) (codes "]")
    ∙ ap (λ (bs : List ℕ). (codes "," ++ compact_text d) ++ bs) (later_json ds)

items_json : (ds : List Data) → items_text (map compact_text ds) ++ codes "]" ≡ json_items false (items_of ds)
items_json [] = refl
items_json (d ∷ ds) =
    append_assoc (compact_text d) (later_items_text (map compact_text ds)) (codes "]")
    ∙ ap (λ (bs : List ℕ). compact_text d ++ bs) (later_json ds)

pub array_json : (ds : List Data) → array_text (map compact_text ds) ≡ compact_text (array (items_of ds))
array_json ds = ap (λ (bs : List ℕ). codes "[" ++ bs) (items_json ds)

pub map_map : {A B C : Type 0} (f : B → C) (g : A → B) (xs : List A) → map f (map g xs) ≡ map (λ x. f (g x)) xs
map_map f g [] = refl
map_map f g (x ∷ xs) = ap (λ ys. f (g x) ∷ ys) (map_map f g xs)
