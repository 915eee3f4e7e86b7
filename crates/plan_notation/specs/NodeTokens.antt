-- Nodes as tokens, by those of the nodes before them.
use Rattle.std.specs.Prelude.{◌≡◌, ℕ, ◌-◌, Bool, true, false, List, [], ◌∷◌, ◌++◌, length, get_or, slice_get, Some, codes}
use Rattle.std.specs.List.{flat_map}
use Rattle.plan_rules.specs.declared.node.Node.{Node}
use Rattle.plan_rules.specs.declared.node.Node.TheVariants.{Input, Just, JustError, JustStopped, Schedule, Delay, ReadEnv, Then, UponError, UponStopped, LetValue, LetError, LetStopped, StartsOn, ContinuesOn, StoppedAsOptional, StoppedAsError, Bulk, WhenAll, Part, Unstoppable, Ahead}
use Rattle.plan_shape.specs.Blueprint.{Blueprint}
use Rattle.plan_writer.specs.Held.{IsHeldNode}
use Rattle.plan_writer.specs.Nodes.{context_name, kind_name, query_name}
use Rattle.plan_notation.specs.Tokens.{constants_words, count_word, job_words, settings_words, text_word}

-- the tokens of some nodes, by their numbers
abbrev pub Done : Type 0
Done = List (List (List ℕ))

-- those of a node, and of nodes with commas between them
abbrev pub words_at : Done → ℕ → List (List ℕ)
words_at done n = get_or done n []

abbrev pub later_nodes : Done → List ℕ → List (List ℕ)
later_nodes done = flat_map (λ n. codes "," ∷ words_at done n)

abbrev pub nodes_words : Done → List ℕ → List (List ℕ)
nodes_words done [] = []
nodes_words done (n ∷ later) = words_at done n ++ later_nodes done later

-- a name with its arguments in brackets
abbrev pub in_brackets : List ℕ → List (List ℕ) → List (List ℕ)
in_brackets name arguments = name ∷ codes "(" ∷ (arguments ++ codes ")" ∷ [])

-- a node behind the sender that it takes
abbrev pub behind_child : Done → ℕ → List (List ℕ) → List (List ℕ)
behind_child done child words = words_at done child ++ codes "|" ∷ words

-- a pick and bodies
abbrev pub let_words : Done → ℕ → List ℕ → List (List ℕ) → List ℕ → List (List ℕ)
let_words done child name pick bodies =
    behind_child done child (in_brackets name (pick ++ later_nodes done bodies))

-- a node; a part stands in its bulk
abbrev pub node_words : Done → Node → List (List ℕ)
node_words done Input = codes "input" ∷ []
node_words done (Just values) = in_brackets (codes "just") (constants_words values)
node_words done (JustError error) = in_brackets (codes "just_error") (text_word error ∷ [])
node_words done JustStopped = codes "just_stopped" ∷ []
node_words done (Schedule on) = in_brackets (codes "schedule") (context_name on ∷ [])
node_words done (Delay turns) = in_brackets (codes "delay") (count_word turns ∷ [])
node_words done (ReadEnv query) = in_brackets (codes "read_env") (query_name query ∷ [])
node_words done (Then child job) =
    behind_child done child (in_brackets (codes "then") (job_words job))
node_words done (UponError child job) =
    behind_child done child (in_brackets (codes "upon_error") (job_words job))
node_words done (UponStopped child job) =
    behind_child done child (in_brackets (codes "upon_stopped") (job_words job))
node_words done (LetValue child pick bodies) =
    let_words done child (codes "let_value") (job_words pick) bodies
node_words done (LetError child pick bodies) =
    let_words done child (codes "let_error") (job_words pick) bodies
node_words done (LetStopped child pick bodies) =
    let_words done child (codes "let_stopped") (job_words pick) bodies
node_words done (StartsOn on child) =
    in_brackets (codes "starts_on") (context_name on ∷ codes "," ∷ words_at done child)
node_words done (ContinuesOn child on) =
    behind_child done child (in_brackets (codes "continues_on") (context_name on ∷ []))
node_words done (StoppedAsOptional child of) =
    behind_child done child (in_brackets (codes "stopped_as_optional") (kind_name of ∷ []))
node_words done (StoppedAsError child error) =
    behind_child done child (in_brackets (codes "stopped_as_error") (text_word error ∷ []))
node_words done (Bulk child job) =
    behind_child done child (in_brackets (codes "bulk") (job_words job))
node_words done (WhenAll children) = in_brackets (codes "when_all") (nodes_words done children)
node_words done (Part bulk part) = []
node_words done (Unstoppable child) = behind_child done child (codes "unstoppable" ∷ [])
node_words done (Ahead first second) =
    in_brackets (codes "ahead") (words_at done first ++ codes "," ∷ words_at done second)

-- a node stands behind the sender that it takes
abbrev pub is_adaptor : Node → Bool
is_adaptor (Then child job) = true
is_adaptor (UponError child job) = true
is_adaptor (UponStopped child job) = true
is_adaptor (LetValue child pick bodies) = true
is_adaptor (LetError child pick bodies) = true
is_adaptor (LetStopped child pick bodies) = true
is_adaptor (ContinuesOn child on) = true
is_adaptor (StoppedAsOptional child of) = true
is_adaptor (StoppedAsError child error) = true
is_adaptor (Bulk child job) = true
is_adaptor (Unstoppable child) = true
is_adaptor node = false

-- the tokens of all nodes, in order
abbrev pub words_from : List Node → Done → Done
words_from [] done = done
words_from (node ∷ nodes) done = words_from nodes (done ++ node_words done node ∷ [])

abbrev pub all_words : List Node → Done
all_words nodes = words_from nodes []

-- the tokens of a plan: its settings, and its last node, which is the root
abbrev pub notation_words : Blueprint → List (List ℕ)
notation_words plan =
    settings_words plan.settings ++ words_at (all_words plan.nodes) (length plan.nodes - 1)

-- numbers fit, texts are texts and lists are short in each node, as the types of its parts tell
abbrev pub HasHeldNodes : List Node → Type 0
HasHeldNodes nodes = (n : ℕ) (node : Node) → slice_get nodes n ≡ Some node → IsHeldNode node
