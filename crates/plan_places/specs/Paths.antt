-- The paths of nodes in a plan file, from its root on: `root.children[1].child`.
use Rattle.std.specs.Prelude.{ℕ, List, [], ◌∷◌, ◌++◌, Option, Some, None, codes, decimal}
use Rattle.std.specs.List.{concat}
use Rattle.plan_places.specs.declared.path.Key.{Key}
use Rattle.plan_places.specs.declared.path.Key.TheVariants.{Child, First, Second, Children, Bodies}

-- the keys of nodes below a node
abbrev pub key_name : Key → List ℕ
key_name Child = codes "child"
key_name First = codes "first"
key_name Second = codes "second"
key_name Children = codes "children"
key_name Bodies = codes "bodies"

-- the path of the node or the array at a key
abbrev pub at_key : List ℕ → Key → List ℕ
at_key path key = path ++ concat (codes "." ∷ key_name key ∷ [])

-- the path of a node in an array, which are numbered from 0
abbrev pub at_item : List ℕ → ℕ → List ℕ
at_item path index = path ++ concat (codes "[" ∷ decimal index ∷ codes "]" ∷ [])

-- the path of a node at a key, or in the array there
abbrev pub at_step : List ℕ → Key → Option ℕ → List ℕ
at_step path key None = at_key path key
at_step path key (Some index) = at_item (at_key path key) index
