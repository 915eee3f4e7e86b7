-- The lines of a box, and arrows.
use Rattle.std.specs.Prelude.{ℕ, Bool, List, [], ◌∷◌, ◌++◌, Some, None, codes, decimal, map, if◌then◌else◌}
use Rattle.std.specs.List.{concat}
use Rattle.node_tree.specs.Tree.{Nearest, TheScope, TheNode, Nowhere}
use Rattle.plan_rules.specs.declared.node.Node.{Node}
use Rattle.plan_kinds.specs.declared.sig.Sig.{Sig}
use Rattle.plan_kinds.specs.Shapes.{Shape}
use Rattle.pictures.specs.Plans.Folds.{folded_text, times_text}
use Rattle.pictures.specs.declared.plans.home.Home.{Home}
use Rattle.pictures.specs.Plans.Names.{name_of, kind_word}
use Rattle.pictures.specs.Plans.Words.{own_text}
use Rattle.pictures.specs.Plans.Homes.{fill_of, border_of}

-- the start of a box: the node's number and name
abbrev pub box_start : ℕ → Node → List ℕ
box_start n node = concat (
    codes "  n" ∷ decimal n ∷ codes " [label=\"" ∷ decimal n ∷ codes " " ∷ name_of node ∷ [])

-- what it has of the node: how many equal neighbours it stands for, and the node's own data
abbrev pub box_node : ℕ → Node → ℕ → List ℕ
box_node n node count = box_start n node ++ (times_text count ++ own_text node)

-- the line of the nearest stop source
abbrev pub source_line : Nearest → List ℕ
source_line TheScope = codes "\\nstop source of the scope"
source_line (TheNode n) = concat (codes "\\nstop source of " ∷ decimal n ∷ [])
source_line Nowhere = codes "\\nno stop source"

-- the line of the values, where there may be one: the kinds of their data
abbrev pub value_line : Shape → List ℕ
value_line None = []
value_line (Some kinds) = codes "\\nset_value" ++ folded_text (map kind_word kinds)

-- the word, where the flag is set
abbrev pub flag_word : Bool → List ℕ → List ℕ
flag_word flag word = if flag then word else []

-- the rest of a box: whether the node may end by an error, and whether by stopped; and the colours
-- of where it is started and where it completes
abbrev pub box_end : Sig → Home → Home → List ℕ
box_end sig start end = concat (
    flag_word sig.may_error (codes "\\nset_error") ∷ flag_word sig.may_stop (codes "\\nset_stopped")
    ∷ codes "\" fillcolor=\"" ∷ fill_of start ∷ codes "\" color=\"" ∷ border_of end
    ∷ codes "\"];\n" ∷ [])

-- the arrow from node n to a child
abbrev pub arrow : ℕ → ℕ → List ℕ
arrow n child = concat (codes "  n" ∷ decimal n ∷ codes " -> n" ∷ decimal child ∷ codes ";\n" ∷ [])

-- the start of the arrow from node n to a body, as far as the body's number, from 0
abbrev pub body_arrow_start : ℕ → ℕ → ℕ → List ℕ
body_arrow_start n body at = concat (
    codes "  n" ∷ decimal n ∷ codes " -> n" ∷ decimal body ∷ codes " [style=dashed label=\"body "
    ∷ decimal at ∷ [])

-- the arrow from node n to a body, with how many equal ones there are
abbrev pub body_arrow : ℕ → ℕ → ℕ → ℕ → List ℕ
body_arrow n body at count =
    body_arrow_start n body at ++ (times_text count ++ codes "\"];\n")
