-- Constants have no fractions.
use Rattle.std.proofs.Common.{◌≡◌, ℤ, pos, negsuc, false, List, [], ◌∷◌, map, refl}
use Rattle.std.proofs.lemmas.Bool.{or_from}
use Rattle.serde_json.specs.Written.{has_float, items_have_float}
use Rattle.serde_json.specs.View.{items_of}
use Rattle.plan_writer.specs.Values.{integer_data, row_data}

pub integer_whole : (n : ℤ) → has_float (integer_data n) ≡ false
integer_whole (pos n) = refl
integer_whole (negsuc n) = refl

pub row_whole : (ns : List ℤ) → has_float (row_data ns) ≡ false
row_whole [] = refl
row_whole (n ∷ ns) =
    or_from (has_float (integer_data n)) (items_have_float (items_of (map integer_data ns)))
    (integer_whole n) (row_whole ns)
