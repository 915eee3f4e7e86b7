-- A node's children, and their homes.
use Rattle.std.specs.Prelude.{ℕ, zero, suc, if◌then◌else◌, List, [], ◌∷◌, Option, None}
use Rattle.node_tree.specs.declared.node.TreeNode.{TreeNode}
use Rattle.node_tree.specs.Tree.{is_child}
use Rattle.table_words.specs.declared.layout.Layout.{Layout}
use Rattle.table_words.specs.Layouts.{place_number}

-- the children of p among the first so many nodes, the last first
abbrev pub children_below : List TreeNode → ℕ → ℕ → List ℕ
children_below tree p zero = []
children_below tree p (suc n) =
    if is_child tree p n then n ∷ children_below tree p n else children_below tree p n

-- the homes of these nodes of a block, empty, as a hand carries them
abbrev pub empty_slots : {P : Type 0} → Layout → ℕ → List ℕ → List (ℕ × Option P) →
    List (ℕ × Option P)
empty_slots l b [] rest = rest
empty_slots l b (n ∷ ns) rest = (place_number l b n, None) ∷ empty_slots l b ns rest
