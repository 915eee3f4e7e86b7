-- The names of the nodes, and the keys that each has.
use Rattle.std.specs.Prelude.{ℕ, Bool, List, [], ◌∷◌, Option, None, option_map, codes, if◌then◌else◌}
use Rattle.std.specs.Option.{option_or}
use Rattle.plan_parts.specs.Named.{named}
use Rattle.plan_reader.specs.declared.node_word.Leaf.{Leaf as LeafWord}
use Rattle.plan_reader.specs.declared.node_word.Leaf.TheVariants.{Input, Just, JustError, JustStopped, Schedule, Delay, ReadEnv}
use Rattle.plan_reader.specs.declared.node_word.Adaptor.{Adaptor as AdaptorWord}
use Rattle.plan_reader.specs.declared.node_word.Adaptor.TheVariants.{Then, UponError, UponStopped, StartsOn, ContinuesOn, StoppedAsOptional, StoppedAsError, Unstoppable}
use Rattle.plan_reader.specs.declared.node_word.Let.{Let as LetWord}
use Rattle.plan_reader.specs.declared.node_word.Let.TheVariants.{Value, Error, Stopped}
use Rattle.plan_reader.specs.declared.node_word.NodeWord.{NodeWord}
use Rattle.plan_reader.specs.declared.node_word.NodeWord.TheVariants.{Leaf, Adaptor, Let, Bulk, WhenAll, Ahead}

-- the nodes without children
abbrev pub leaf_named : List ℕ → Option LeafWord
leaf_named = named (
    (codes "input", Input) ∷ (codes "just", Just) ∷ (codes "just_error", JustError)
    ∷ (codes "just_stopped", JustStopped) ∷ (codes "schedule", Schedule) ∷ (codes "delay", Delay)
    ∷ (codes "read_env", ReadEnv) ∷ [])

-- those over one child
abbrev pub adaptor_named : List ℕ → Option AdaptorWord
adaptor_named = named (
    (codes "then", Then) ∷ (codes "upon_error", UponError) ∷ (codes "upon_stopped", UponStopped)
    ∷ (codes "starts_on", StartsOn) ∷ (codes "continues_on", ContinuesOn)
    ∷ (codes "stopped_as_optional", StoppedAsOptional)
    ∷ (codes "stopped_as_error", StoppedAsError) ∷ [])

-- those over one child and bodies
abbrev pub let_named : List ℕ → Option LetWord
let_named = named (
    (codes "let_value", Value) ∷ (codes "let_error", Error) ∷ (codes "let_stopped", Stopped) ∷ [])

-- the others
abbrev pub other_node_named : List ℕ → Option NodeWord
other_node_named = named ((codes "bulk", Bulk) ∷ (codes "when_all", WhenAll) ∷ [])

-- the nodes that version 1 has
abbrev pub early_node_named : List ℕ → Option NodeWord
early_node_named name =
    option_or (option_map Leaf (leaf_named name))
    (option_or (option_map Adaptor (adaptor_named name))
    (option_or (option_map Let (let_named name)) (other_node_named name)))

-- those that it hasn't: in a plan of version 1 they aren't known
abbrev pub later_node_named : Bool → List ℕ → Option NodeWord
later_node_named is_first name =
    if is_first then None
    else named ((codes "unstoppable", Adaptor Unstoppable) ∷ (codes "ahead", Ahead) ∷ []) name

-- the node of a name
abbrev pub node_named : Bool → List ℕ → Option NodeWord
node_named is_first name = option_or (early_node_named name) (later_node_named is_first name)

-- the keys that a node has, all of which it needs
abbrev pub leaf_keys : LeafWord → List (List ℕ)
leaf_keys Input = codes "do" ∷ []
leaf_keys JustStopped = codes "do" ∷ []
leaf_keys Just = codes "do" ∷ codes "values" ∷ []
leaf_keys JustError = codes "do" ∷ codes "error" ∷ []
leaf_keys Schedule = codes "do" ∷ codes "on" ∷ []
leaf_keys Delay = codes "do" ∷ codes "turns" ∷ []
leaf_keys ReadEnv = codes "do" ∷ codes "query" ∷ []

abbrev pub adaptor_keys : AdaptorWord → List (List ℕ)
adaptor_keys Then = codes "child" ∷ codes "do" ∷ codes "job" ∷ []
adaptor_keys UponError = codes "child" ∷ codes "do" ∷ codes "job" ∷ []
adaptor_keys UponStopped = codes "child" ∷ codes "do" ∷ codes "job" ∷ []
adaptor_keys StartsOn = codes "child" ∷ codes "do" ∷ codes "on" ∷ []
adaptor_keys ContinuesOn = codes "child" ∷ codes "do" ∷ codes "on" ∷ []
adaptor_keys StoppedAsOptional = codes "child" ∷ codes "do" ∷ codes "of" ∷ []
adaptor_keys StoppedAsError = codes "child" ∷ codes "do" ∷ codes "error" ∷ []
adaptor_keys Unstoppable = codes "child" ∷ codes "do" ∷ []

abbrev pub node_keys : NodeWord → List (List ℕ)
node_keys (Leaf leaf) = leaf_keys leaf
node_keys (Adaptor adaptor) = adaptor_keys adaptor
node_keys (Let binding) = codes "bodies" ∷ codes "child" ∷ codes "do" ∷ codes "pick" ∷ []
node_keys Bulk = codes "child" ∷ codes "do" ∷ codes "job" ∷ []
node_keys WhenAll = codes "children" ∷ codes "do" ∷ []
node_keys Ahead = codes "do" ∷ codes "first" ∷ codes "second" ∷ []
