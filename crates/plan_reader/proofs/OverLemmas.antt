-- Over which nodes a node of a file stands, and of which version it is.
use Rattle.std.proofs.Common.{◌≡◌, ℕ, Bool, true, false, cond, List, [], ◌∷◌, Option, Some, None, refl}
use Rattle.std.specs.Prelude.{codes, option_map}
use Rattle.std.specs.List.{list_any}
use Rattle.std.specs.Option.{option_map_or, option_or}
use Rattle.std.proofs.lemmas.Bool.{false≢true, or_parts}
use Rattle.std.specs.Str.{bytes_eq}
use Rattle.serde_json.specs.Data.{Data}
use Rattle.plan_rules.specs.Children.{named_by}
use Rattle.plan_rules.specs.declared.node.Node.{Node}
use Rattle.plan_rules.specs.declared.node.Node.TheVariants as node
use Rattle.plan_shape.specs.Finish.{is_of_version_2}
use Rattle.plan_shape.specs.declared.limits.TheConstants.{MOST_TURNS}
use Rattle.exec_job.specs.declared.job.Job.{Job}
use Rattle.plan_parts.specs.declared.reading.Reading.{Reading}
use Rattle.plan_parts.specs.declared.reading.Reading.TheVariants.{Good, Bad}
use Rattle.plan_parts.specs.Constants.{constants_at}
use Rattle.plan_parts.specs.Jobs.{job_at}
use Rattle.plan_parts.specs.Named.{named}
use Rattle.plan_parts.specs.Reading.{IfGood, mapped}
use Rattle.plan_parts.specs.Scalars.{count_at, name_at}
use Rattle.plan_reader.specs.NodeParts.{adaptor_node, context_at, context_named, leaf_node, let_node, of_at, of_named, picking, query_at, query_named}
use Rattle.plan_reader.specs.NodeWords.{adaptor_named, early_node_named, leaf_named, let_named, node_named, other_node_named}
use Rattle.plan_reader.specs.declared.node_word.Adaptor.{Adaptor as AdaptorWord}
use Rattle.plan_reader.specs.declared.node_word.Adaptor.TheVariants.{Then, UponError, UponStopped, StartsOn, ContinuesOn, StoppedAsOptional, StoppedAsError, Unstoppable}
use Rattle.plan_reader.specs.declared.node_word.Leaf.{Leaf as LeafWord}
use Rattle.plan_reader.specs.declared.node_word.Leaf.TheVariants.{Input, Just, JustError, JustStopped, Schedule, Delay, ReadEnv}
use Rattle.plan_reader.specs.declared.node_word.Let.{Let as LetWord}
use Rattle.plan_reader.specs.declared.node_word.Let.TheVariants.{Value, Error, Stopped}
use Rattle.plan_reader.specs.declared.node_word.NodeWord.{NodeWord}
use Rattle.plan_reader.specs.declared.node_word.NodeWord.TheVariants.{Leaf, Adaptor, Let, Bulk, WhenAll, Ahead}
use Rattle.plan_reader.proofs.FaultLemmas.{Tells, tells-constants_at, tells-count_at, tells-job_at, tells-known, tells-mapped, tells-name_at, tells-word}

-- a node over these nodes, which is of version 2 or isn't
pub record IsOver (roots : List ℕ) (late : Bool) (node : Node) : Type 0 where
  pub names : named_by node ≡ roots
  pub version : is_of_version_2 node ≡ late

-- a node was read that stands over these, or a fault is named
pub record Reads (roots : List ℕ) (late : Bool) (r : Reading Node) : Type 0 where
  pub tells : Tells r
  pub over : IfGood r (IsOver roots late)

over-mapped : {A : Type 0} (roots : List ℕ) (late : Bool) (f : A → Node) (r : Reading A)
    → ((a : A) → IsOver roots late (f a)) → IfGood (mapped f r) (IsOver roots late)
over-mapped roots late f (Good a) over = over a
over-mapped roots late f (Bad faults) over = tt

reads : {A : Type 0} (roots : List ℕ) (late : Bool) (f : A → Node) (r : Reading A) → Tells r
    → ((a : A) → IsOver roots late (f a)) → Reads roots late (mapped f r)
reads roots late f r tells over = record {
  tells = tells-mapped f r tells;
  over = over-mapped roots late f r over;
}

tells-context_at : (d : Data) → Tells (context_at d)
tells-context_at d = tells-word _ (codes "on") d (λ name. tells-known (context_named name))

tells-query_at : (d : Data) → Tells (query_at d)
tells-query_at d = tells-word _ (codes "query") d (λ name. tells-known (query_named name))

tells-of_at : (d : Data) → Tells (of_at d)
tells-of_at d = tells-word of_named (codes "of") d (λ name. tells-known _)

pub reads-leaf : (leaf : LeafWord) (d : Data) → Reads [] false (leaf_node leaf d)
reads-leaf Input d = record { tells = tt; over = record { names = refl; version = refl } }
reads-leaf Just d =
    reads [] false node.Just (constants_at (codes "values") d) (tells-constants_at (codes "values") d)
    (λ values. record { names = refl; version = refl })
reads-leaf JustError d =
    reads [] false node.JustError (name_at (codes "error") d) (tells-name_at (codes "error") d)
    (λ name. record { names = refl; version = refl })
reads-leaf JustStopped d = record { tells = tt; over = record { names = refl; version = refl } }
reads-leaf Schedule d =
    reads [] false node.Schedule (context_at d) (tells-context_at d)
    (λ on. record { names = refl; version = refl })
reads-leaf Delay d =
    reads [] false node.Delay (count_at (codes "turns") 0 MOST_TURNS d)
    (tells-count_at (codes "turns") 0 MOST_TURNS d) (λ turns. record { names = refl; version = refl })
reads-leaf ReadEnv d =
    reads [] false node.ReadEnv (query_at d) (tells-query_at d)
    (λ query. record { names = refl; version = refl })

abbrev pub is_late_adaptor : AdaptorWord → Bool
is_late_adaptor Unstoppable = true
is_late_adaptor adaptor = false

reads-job : (d : Data) (child : ℕ) (f : Job → Node) → ((job : Job) → IsOver (child ∷ []) false (f job))
    → Reads (child ∷ []) false (mapped f (job_at (codes "job") d))
reads-job d child f over = reads (child ∷ []) false f (job_at (codes "job") d) (tells-job_at (codes "job") d) over

pub reads-adaptor : (adaptor : AdaptorWord) (d : Data) (child : ℕ)
    → Reads (child ∷ []) (is_late_adaptor adaptor) (adaptor_node adaptor d child)
reads-adaptor Then d child =
    reads-job d child (λ job. node.Then child job) (λ job. record { names = refl; version = refl })
reads-adaptor UponError d child =
    reads-job d child (λ job. node.UponError child job) (λ job. record { names = refl; version = refl })
reads-adaptor UponStopped d child =
    reads-job d child (λ job. node.UponStopped child job) (λ job. record { names = refl; version = refl })
reads-adaptor StartsOn d child =
    reads (child ∷ []) false (λ on. node.StartsOn on child) (context_at d) (tells-context_at d)
    (λ on. record { names = refl; version = refl })
reads-adaptor ContinuesOn d child =
    reads (child ∷ []) false (λ on. node.ContinuesOn child on) (context_at d) (tells-context_at d)
    (λ on. record { names = refl; version = refl })
reads-adaptor StoppedAsOptional d child =
    reads (child ∷ []) false (λ of. node.StoppedAsOptional child of) (of_at d) (tells-of_at d)
    (λ of. record { names = refl; version = refl })
reads-adaptor StoppedAsError d child =
    reads (child ∷ []) false (λ error. node.StoppedAsError child error) (name_at (codes "error") d)
    (tells-name_at (codes "error") d) (λ name. record { names = refl; version = refl })
reads-adaptor Unstoppable d child = record { tells = tt; over = record { names = refl; version = refl } }

over-picking : (binding : LetWord) (child : ℕ) (bodies : List ℕ) (pick : Job)
    → IsOver (child ∷ bodies) false (picking binding child bodies pick)
over-picking Value child bodies pick = record { names = refl; version = refl }
over-picking Error child bodies pick = record { names = refl; version = refl }
over-picking Stopped child bodies pick = record { names = refl; version = refl }

pub reads-let : (binding : LetWord) (d : Data) (child : ℕ) (bodies : List ℕ)
    → Reads (child ∷ bodies) false (let_node binding d child bodies)
reads-let binding d child bodies =
    reads (child ∷ bodies) false (picking binding child bodies) (job_at (codes "pick") d)
    (tells-job_at (codes "pick") d) (over-picking binding child bodies)

-- the nodes that version 1 hasn't
abbrev pub is_late : NodeWord → Bool
is_late (Adaptor adaptor) = is_late_adaptor adaptor
is_late Ahead = true
is_late word = false

-- a table in which no row passes a test finds nothing that does
none-if : {A : Type 0} (test : A → Bool) (b : Bool) (a : A) (o : Option A) → test a ≡ false
    → option_map_or test o false ≡ false → option_map_or test (cond b (Some a) o) false ≡ false
none-if test true a o here there = here
none-if test false a o here there = there

none-named : {A : Type 0} (test : A → Bool) (rows : List (List ℕ × A)) (name : List ℕ)
    → list_any (λ row. test row.1) rows ≡ false → option_map_or test (named rows name) false ≡ false
none-named test [] name none = refl
none-named test (row ∷ rows) name none =
    let parts = or_parts (test row.1) (list_any (λ row. test row.1) rows) none in
    none-if test (bytes_eq name row.0) row.1 (named rows name) parts.0
    (none-named test rows name parts.1)

-- so a plan of version 1 has no node that is of version 2
abbrev pub late_of : Option NodeWord → Bool
late_of o = option_map_or is_late o false

first_of : (l : Option LeafWord) (a : Option AdaptorWord) (b : Option LetWord) (o : Option NodeWord)
    → option_map_or is_late_adaptor a false ≡ false → late_of o ≡ false
    → late_of (option_or (option_map Leaf l) (option_or (option_map Adaptor a) (option_or (option_map Let b) o)))
    ≡ false
first_of (Some l) a b o is has = refl
first_of None (Some a) b o is has = is
first_of None None (Some b) o is has = refl
first_of None None None o is has = has

early-late : (name : List ℕ) → late_of (early_node_named name) ≡ false
early-late name =
    first_of (leaf_named name) (adaptor_named name) (let_named name) (other_node_named name)
    (none-named is_late_adaptor (
    (codes "then", Then) ∷ (codes "upon_error", UponError) ∷ (codes "upon_stopped", UponStopped)
    ∷ (codes "starts_on", StartsOn) ∷ (codes "continues_on", ContinuesOn)
    ∷ (codes "stopped_as_optional", StoppedAsOptional)
    ∷ (codes "stopped_as_error", StoppedAsError) ∷ []) name refl)
    (none-named is_late ((codes "bulk", Bulk) ∷ (codes "when_all", WhenAll) ∷ []) name refl)

or_nothing : (o : Option NodeWord) → late_of o ≡ false → late_of (option_or o None) ≡ false
or_nothing (Some word) is = is
or_nothing None is = refl

pub node_named-late : (is_first : Bool) (name : List ℕ) → is_first ≡ true
    → late_of (node_named is_first name) ≡ false
node_named-late true name first = or_nothing (early_node_named name) (early-late name)
node_named-late false name first = absurd (false≢true first)
