-- The keys of an object, beside those of the map that holds it.
use Rattle.std.proofs.Common.{◌≡◌, List, [], ◌∷◌, map, string_bytes, refl, ap}
use Rattle.std.specs.Map.{keys_of as entry_keys}
use Rattle.serde_json.specs.View.{members_view}
use Rattle.serde_json.proofs.Views.{Entry}
use Rattle.plan_parts.specs.Objects.{keys_of}

pub keys_of-members_view : (es : List Entry)
    → keys_of (members_view es) ≡ map string_bytes (entry_keys es)
keys_of-members_view [] = refl
keys_of-members_view (e ∷ es) = ap (λ keys. string_bytes e.0 ∷ keys) (keys_of-members_view es)
