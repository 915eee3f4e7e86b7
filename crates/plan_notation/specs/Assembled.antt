-- Nodes, jobs and plans as JSON, their keys in the order of the bytes.
use Rattle.std.specs.Prelude.{ℕ, List, [], ◌∷◌, ◌++◌, drop, get_or, codes}
use Rattle.std.specs.List.{flat_map}
use Rattle.plan_parts.specs.declared.job_word.JobWord.{JobWord}
use Rattle.plan_parts.specs.declared.job_word.JobWord.TheVariants as job
use Rattle.plan_reader.specs.declared.node_word.Adaptor.{Adaptor as AdaptorWord}
use Rattle.plan_reader.specs.declared.node_word.Adaptor.TheVariants as adaptor
use Rattle.plan_reader.specs.declared.node_word.Leaf.{Leaf as LeafWord}
use Rattle.plan_reader.specs.declared.node_word.Leaf.TheVariants as leaf
use Rattle.plan_reader.specs.declared.node_word.Let.{Let as LetWord}
use Rattle.plan_reader.specs.declared.node_word.NodeWord.{NodeWord}
use Rattle.plan_reader.specs.declared.node_word.NodeWord.TheVariants as node
use Rattle.plan_notation.specs.Names.{adaptor_name, arithmetic_name, leaf_name, let_name, plain_name}
use Rattle.plan_notation.specs.Settings.{Settings}

-- three pieces, and five, one after the other
abbrev pub three : List ℕ → List ℕ → List ℕ → List ℕ
three a b c = a ++ (b ++ c)

abbrev pub five : List ℕ → List ℕ → List ℕ → List ℕ → List ℕ → List ℕ
five a b c d e = three a b (three c d e)

-- a word in quotes
abbrev pub quoted_word : List ℕ → List ℕ
quoted_word word = three (codes "\"") word (codes "\"")

-- one of some pieces, or nothing
abbrev pub piece_at : List (List ℕ) → ℕ → List ℕ
piece_at pieces n = get_or pieces n []

-- pieces in an array
abbrev pub later_items_text : List (List ℕ) → List ℕ
later_items_text = flat_map (λ piece. codes "," ++ piece)

abbrev pub items_text : List (List ℕ) → List ℕ
items_text [] = []
items_text (piece ∷ pieces) = piece ++ later_items_text pieces

abbrev pub array_text : List (List ℕ) → List ℕ
array_text pieces = three (codes "[") (items_text pieces) (codes "]")

-- a node without children
abbrev pub leaf_text : LeafWord → List (List ℕ) → List ℕ
leaf_text leaf.Just arguments = three (leaf_name leaf.Just) (array_text arguments) (codes "}")
leaf_text word arguments = three (leaf_name word) (piece_at arguments 0) (codes "}")

-- a node over one child, with its argument, or for `starts_on` its two
abbrev pub adaptor_text : AdaptorWord → List ℕ → List ℕ → List ℕ → List ℕ
adaptor_text adaptor.StartsOn child first second =
    five (codes "{\"child\":") second (adaptor_name adaptor.StartsOn) first (codes "}")
adaptor_text word child first second =
    five (codes "{\"child\":") child (adaptor_name word) first (codes "}")

-- a node over one child and bodies
abbrev pub let_text : LetWord → List ℕ → List (List ℕ) → List ℕ
let_text binding child arguments =
    five (codes "{\"bodies\":") (array_text (drop 1 arguments)) (codes ",\"child\":") child
    (three (let_name binding) (piece_at arguments 0) (codes "}"))

-- a node with these arguments, over this sender where it takes one
abbrev pub node_json : NodeWord → List ℕ → List (List ℕ) → List ℕ
node_json (node.Leaf word) child arguments = leaf_text word arguments
node_json (node.Adaptor word) child arguments =
    adaptor_text word child (piece_at arguments 0) (piece_at arguments 1)
node_json (node.Let binding) child arguments = let_text binding child arguments
node_json node.Bulk child arguments =
    five (codes "{\"child\":") child (codes ",\"do\":\"bulk\",\"job\":") (piece_at arguments 0)
    (codes "}")
node_json node.WhenAll child arguments =
    three (codes "{\"children\":") (array_text arguments) (codes ",\"do\":\"when_all\"}")
node_json node.Ahead child arguments =
    five (codes "{\"do\":\"ahead\",\"first\":") (piece_at arguments 0) (codes ",\"second\":")
    (piece_at arguments 1) (codes "}")

-- a job with these constants
abbrev pub job_json : JobWord → List (List ℕ) → List ℕ
job_json (job.Plain word) constants = three (codes "{\"job\":") (plain_name word) (codes "}")
job_json (job.Arithmetic word) constants =
    five (codes "{\"job\":") (arithmetic_name word) (codes ",\"n\":") (piece_at constants 0)
    (codes "}")
job_json job.Within constants =
    five (codes "{\"hi\":") (piece_at constants 1) (codes ",\"job\":\"within\",\"lo\":")
    (piece_at constants 0) (codes "}")
job_json job.Fail constants =
    three (codes "{\"error\":") (piece_at constants 0) (codes ",\"job\":\"fail\"}")
job_json job.Append constants =
    three (codes "{\"job\":\"append\",\"text\":") (piece_at constants 0) (codes "}")
job_json job.Give constants =
    three (codes "{\"job\":\"give\",\"values\":") (array_text constants) (codes "}")
job_json job.At constants =
    three (codes "{\"i\":") (piece_at constants 0) (codes ",\"job\":\"at\"}")
job_json job.ValueOr constants =
    three (codes "{\"else\":") (piece_at constants 0) (codes ",\"job\":\"value_or\"}")

-- a plan with this root
abbrev pub last_json : Settings → List ℕ
last_json s = three s.stop_after (codes ",\"version\":") (s.version ++ codes "}")

abbrev pub root_json : Settings → List ℕ → List ℕ
root_json s root = five (codes ",\"root\":") root (codes ",\"scope\":") s.scope (last_json s)

abbrev pub plan_json : Settings → List ℕ → List ℕ
plan_json s root =
    five (codes "{\"input\":") s.input (codes ",\"on_error\":") s.on_error (root_json s root)
