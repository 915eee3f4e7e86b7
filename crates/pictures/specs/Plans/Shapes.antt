-- Which neighbours are equal: those of which a picture would say the same, numbers and contexts
-- aside.
use Rattle.std.specs.Prelude.{ℕ, zero, suc, List, [], ◌++◌, map, slice_get, codes}
use Rattle.std.specs.List.{flat_map}
use Rattle.std.specs.Option.{option_map_or}
use Rattle.plan_rules.specs.declared.node.Node.{Node}
use Rattle.plan_kinds.specs.Runs.{run_by, bodies_of}
use Rattle.pictures.specs.declared.plans.folds.Fold.{Fold}
use Rattle.pictures.specs.Plans.Folds.{folds_of}
use Rattle.pictures.specs.Plans.Names.{name_of}
use Rattle.pictures.specs.Plans.Words.{own_text}

-- a node by the shapes of those below it: its name, its own data, its children and its bodies
abbrev pub shape_case : (ℕ → List ℕ) → Node → List ℕ
shape_case below node =
    name_of node ++ (own_text node ++ (codes "(" ++ (flat_map below (run_by node) ++ (codes ";"
    ++ (flat_map below (bodies_of node) ++ codes ")")))))

-- node n and all below it, as far as so many steps down tell
unfoldable pub shape_of : List Node → ℕ → ℕ → List ℕ
shape_of nodes zero n = []
shape_of nodes (suc steps) n = option_map_or (shape_case (shape_of nodes steps))
    (slice_get nodes n) []

-- the folds of these nodes, which stand side by side
abbrev pub folds_below : List Node → ℕ → List ℕ → List Fold
folds_below nodes steps numbers = folds_of (map (shape_of nodes steps) numbers)
