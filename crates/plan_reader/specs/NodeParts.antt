-- What a node is made of beside its children.
use Rattle.std.specs.Prelude.{ℕ, List, [], ◌∷◌, Option, codes}
use Rattle.std.specs.Option.{option_map_or}
use Rattle.serde_json.specs.Data.{Data}
use Rattle.exec_value.specs.declared.kinds.Kind.{Kind}
use Rattle.exec_value.specs.declared.kinds.Kind.TheVariants as kind
use Rattle.exec_job.specs.declared.job.Job.{Job}
use Rattle.node_tree.specs.declared.context.Context.{Context}
use Rattle.node_tree.specs.declared.context.Context.TheVariants as context
use Rattle.plan_rules.specs.declared.node.Query.{Query}
use Rattle.plan_rules.specs.declared.node.Query.TheVariants as query
use Rattle.plan_rules.specs.declared.node.Node.{Node}
use Rattle.plan_rules.specs.declared.node.Node.TheVariants as node
use Rattle.plan_shape.specs.declared.limits.TheConstants.{MOST_TURNS}
use Rattle.plan_parts.specs.declared.reading.Reading.{Reading}
use Rattle.plan_parts.specs.declared.reading.Reading.TheVariants.{Good, Bad}
use Rattle.plan_parts.specs.declared.reading.TheConstants.{FORM_FAULT}
use Rattle.plan_parts.specs.Named.{named}
use Rattle.plan_parts.specs.Reading.{known, mapped}
use Rattle.plan_parts.specs.Objects.{text_at}
use Rattle.plan_parts.specs.Scalars.{count_at, name_at}
use Rattle.plan_parts.specs.Constants.{constants_at}
use Rattle.plan_parts.specs.Jobs.{job_at}
use Rattle.plan_reader.specs.declared.node_word.Leaf.{Leaf as LeafWord}
use Rattle.plan_reader.specs.declared.node_word.Leaf.TheVariants.{Input, Just, JustError, JustStopped, Schedule, Delay, ReadEnv}
use Rattle.plan_reader.specs.declared.node_word.Adaptor.{Adaptor as AdaptorWord}
use Rattle.plan_reader.specs.declared.node_word.Adaptor.TheVariants.{Then, UponError, UponStopped, StartsOn, ContinuesOn, StoppedAsOptional, StoppedAsError, Unstoppable}
use Rattle.plan_reader.specs.declared.node_word.Let.{Let as LetWord}
use Rattle.plan_reader.specs.declared.node_word.Let.TheVariants.{Value, Error, Stopped}

-- the contexts by their names, and the context at the key `on`
abbrev pub context_named : List ℕ → Option Context
context_named = named ((codes "loop", context.Loop) ∷ (codes "pool", context.Pool) ∷ [])

abbrev pub context_at : Data → Reading Context
context_at d = option_map_or (λ name. known (context_named name)) (text_at (codes "on") d)
    (Bad FORM_FAULT)

-- the queries by their names, and the query at the key `query`
abbrev pub query_named : List ℕ → Option Query
query_named = named ((codes "stop", query.Stop) ∷ (codes "record", query.Record) ∷ [])

abbrev pub query_at : Data → Reading Query
query_at d = option_map_or (λ name. known (query_named name)) (text_at (codes "query") d)
    (Bad FORM_FAULT)

-- the kinds that may be missing by their names, and the kind at the key `of`
abbrev pub of_named : List ℕ → Reading Kind
of_named name = known (named ((codes "int", kind.Int) ∷ (codes "text", kind.Text) ∷ []) name)

abbrev pub of_at : Data → Reading Kind
of_at d = option_map_or of_named (text_at (codes "of") d) (Bad FORM_FAULT)

-- a node without children
abbrev pub leaf_node : LeafWord → Data → Reading Node
leaf_node Input d = Good node.Input
leaf_node Just d = mapped node.Just (constants_at (codes "values") d)
leaf_node JustError d = mapped node.JustError (name_at (codes "error") d)
leaf_node JustStopped d = Good node.JustStopped
leaf_node Schedule d = mapped node.Schedule (context_at d)
leaf_node Delay d = mapped node.Delay (count_at (codes "turns") 0 MOST_TURNS d)
leaf_node ReadEnv d = mapped node.ReadEnv (query_at d)

-- a node over this child
abbrev pub adaptor_node : AdaptorWord → Data → ℕ → Reading Node
adaptor_node Then d child = mapped (λ job. node.Then child job) (job_at (codes "job") d)
adaptor_node UponError d child = mapped (λ job. node.UponError child job) (job_at (codes "job") d)
adaptor_node UponStopped d child = mapped (λ job. node.UponStopped child job)
    (job_at (codes "job") d)
adaptor_node StartsOn d child = mapped (λ on. node.StartsOn on child) (context_at d)
adaptor_node ContinuesOn d child = mapped (λ on. node.ContinuesOn child on) (context_at d)
adaptor_node StoppedAsOptional d child = mapped (λ of. node.StoppedAsOptional child of) (of_at d)
adaptor_node StoppedAsError d child =
    mapped (λ error. node.StoppedAsError child error) (name_at (codes "error") d)
adaptor_node Unstoppable d child = Good (node.Unstoppable child)

-- a node over this child and these bodies, of which a job picks one
abbrev pub picking : LetWord → ℕ → List ℕ → Job → Node
picking Value child bodies pick = node.LetValue child pick bodies
picking Error child bodies pick = node.LetError child pick bodies
picking Stopped child bodies pick = node.LetStopped child pick bodies

abbrev pub let_node : LetWord → Data → ℕ → List ℕ → Reading Node
let_node binding d child bodies = mapped (picking binding child bodies) (job_at (codes "pick") d)
