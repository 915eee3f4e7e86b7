-- What is drawn of a node, and of those below it.
use Rattle.std.specs.Prelude.{ℕ, zero, suc, List, [], ◌++◌, get_or, slice_get}
use Rattle.std.specs.List.{flat_map}
use Rattle.std.specs.Option.{option_map_or}
use Rattle.node_tree.specs.Tree.{nearest}
use Rattle.plan_rules.specs.declared.node.Node.{Node}
use Rattle.plan_shape.specs.PlanTree.{tree_of}
use Rattle.plan_kinds.specs.declared.sig.Sig.{Sig}
use Rattle.plan_kinds.specs.Runs.{run_by, bodies_of}
use Rattle.pictures.specs.declared.plans.folds.Fold.{Fold}
use Rattle.pictures.specs.declared.plans.drawing.Spot.{Spot}
use Rattle.pictures.specs.declared.plans.home.Home.{Home}
use Rattle.pictures.specs.Plans.Homes.{home_below}
use Rattle.pictures.specs.Plans.Ends.{end_of, end_of_children}
use Rattle.pictures.specs.Plans.Shapes.{folds_below}
use Rattle.pictures.specs.Plans.Lines.{arrow, body_arrow, box_end, box_node, source_line, value_line}

-- what a box says of completions, and its colours
abbrev pub sig_text : Home → Home → Sig → List ℕ
sig_text start end sig = value_line sig.value ++ box_end sig start end

-- the box of node n, which is started and completes there, and stands for `count` equal neighbours
unfoldable pub box_text : List Node → List Sig → ℕ → Node → ℕ → Home → Home → List ℕ
box_text nodes sigs n node count start end =
    box_node n node count
    ++ (source_line (nearest (tree_of nodes) n)
    ++ option_map_or (sig_text start end) (slice_get sigs n) [])

-- the box of a node that is to be drawn there
abbrev pub box_at : List Node → List Sig → Spot → Home → List ℕ
box_at nodes sigs spot end =
    option_map_or (λ node. box_text nodes sigs spot.number node spot.count spot.start end)
    (slice_get nodes spot.number) []

-- the first of the nodes of a fold
abbrev pub first_of_fold : List ℕ → Fold → ℕ
first_of_fold numbers fold = get_or numbers fold.at 0

-- the arrow from node n to a child, and to a body: to the first of a fold
abbrev pub arrow_to : ℕ → List ℕ → Fold → List ℕ
arrow_to n children fold = arrow n (first_of_fold children fold)

abbrev pub body_arrow_to : ℕ → List ℕ → Fold → List ℕ
body_arrow_to n bodies fold = body_arrow n (first_of_fold bodies fold) fold.at fold.count

-- the arrows from node n to its children, and to its bodies: one for each fold
abbrev pub arrows : ℕ → List ℕ → List Fold → List ℕ
arrows n children folds = flat_map (arrow_to n children) folds

abbrev pub body_arrows : ℕ → List ℕ → List Fold → List ℕ
body_arrows n bodies folds = flat_map (body_arrow_to n bodies) folds

-- what is drawn of a node by its number, how many it stands for, and where it is started
abbrev pub Drawing : Type 0
Drawing = ℕ → ℕ → Home → List ℕ

-- what is drawn of a fold, whose nodes are started there: its first node
abbrev pub drawn_fold : Drawing → Home → List ℕ → Fold → List ℕ
drawn_fold below start numbers fold = below (first_of_fold numbers fold) fold.count start

-- what is drawn of nodes that stand side by side
abbrev pub drawn_each : Drawing → Home → List ℕ → List Fold → List ℕ
drawn_each below start numbers folds = flat_map (drawn_fold below start numbers) folds

-- the arrows from node n to those below it
abbrev pub arrows_below : List Node → ℕ → ℕ → Node → List ℕ
arrows_below nodes steps n node =
    arrows n (run_by node) (folds_below nodes steps (run_by node))
    ++ body_arrows n (bodies_of node) (folds_below nodes steps (bodies_of node))

-- where the bodies of a node are started: where its children complete
abbrev pub start_of_bodies : List Node → ℕ → Node → Home → Home
start_of_bodies nodes steps node start =
    end_of_children (end_of nodes steps) (home_below node start) (run_by node)

-- what is drawn of those below a node that is started there: its children, and then its bodies
abbrev pub drawn_below : List Node → ℕ → Drawing → Node → Home → List ℕ
drawn_below nodes steps below node start =
    drawn_each below (home_below node start) (run_by node) (folds_below nodes steps (run_by node))
    ++ drawn_each below (start_of_bodies nodes steps node start) (bodies_of node)
    (folds_below nodes steps (bodies_of node))

-- what is drawn of a node that completes there: its box, its arrows, and what stands below it
abbrev pub drawn_node : List Node → List Sig → ℕ → Drawing → ℕ → ℕ → Home → Node → List ℕ
drawn_node nodes sigs steps below n count start node =
    box_text nodes sigs n node count start (end_of nodes (suc steps) n start)
    ++ (arrows_below nodes steps n node ++ drawn_below nodes steps below node start)

-- what is drawn of node n, as far as so many steps down tell
unfoldable pub drawn_from : List Node → List Sig → ℕ → ℕ → ℕ → Home → List ℕ
drawn_from nodes sigs zero n count start = []
drawn_from nodes sigs (suc steps) n count start =
    option_map_or (drawn_node nodes sigs steps (drawn_from nodes sigs steps) n count start)
    (slice_get nodes n) []
