-- The picture of a plan.
use Rattle.std.specs.Prelude.{ℕ, ◌-◌, List, [], ◌∷◌, length, codes}
use Rattle.std.specs.List.{concat}
use Rattle.plan_rules.specs.declared.node.Node.{Node}
use Rattle.plan_shape.specs.declared.limits.TheConstants.{MOST_DEPTH}
use Rattle.plan_kinds.specs.declared.sig.Sig.{Sig}
use Rattle.pictures.specs.declared.plans.home.Home.{Home}
use Rattle.pictures.specs.declared.plans.home.Home.TheVariants.{Loop, Pool, Either}
use Rattle.pictures.specs.Plans.Homes.{fill_of, border_of}
use Rattle.pictures.specs.Plans.Drawing.{drawn_from}

-- the head of the picture, as far as its legend
abbrev pub head_text : List ℕ
head_text = codes
    "digraph plan {\n  graph [ordering=out];\n  node [shape=box style=filled penwidth=3];\n"

-- a box of the legend: a context, in its colours
abbrev pub sample_text : List ℕ → List ℕ → Home → List ℕ
sample_text name shown home = concat (
    codes "    " ∷ name ∷ codes " [label=\"" ∷ shown ∷ codes "\" fillcolor=\"" ∷ fill_of home
    ∷ codes "\" color=\"" ∷ border_of home ∷ codes "\"];\n" ∷ [])

-- the legend: what the colours of a box say
unfoldable pub legend_text : List ℕ
legend_text = concat (
    codes "  subgraph cluster_legend {\n    label=\"fill: where a node is started, border: where it completes\\nx2: two equal neighbours, drawn once\";\n"
    ∷ sample_text (codes "either") (codes "the loop or the pool") Either
    ∷ sample_text (codes "pool") (codes "the pool") Pool
    ∷ sample_text (codes "loop") (codes "the loop") Loop
    ∷ codes "  }\n" ∷ [])

-- the head, the legend, what is drawn of the root, which is the last node and starts in the loop,
-- and the end
unfoldable pub picture_of : List Node → List Sig → List ℕ
picture_of nodes sigs = concat (
    head_text ∷ legend_text ∷ drawn_from nodes sigs MOST_DEPTH (length nodes - 1) 1 Loop
    ∷ codes "}\n" ∷ [])
