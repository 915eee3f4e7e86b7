-- A node's object is walked as its children in order, and then the node.
use Rattle.std.specs.Prelude.{⊤, codes}
use Rattle.std.proofs.Common.{◌≡◌, ℕ, suc, ◌≤◌, true, false, List, map, refl, ap, ◌∙◌, arith}
use Rattle.std.proofs.lemmas.Bool.{cond-true, false≢true}
use Rattle.serde_json.specs.Data.{Data}
use Rattle.serde_json.specs.View.{items_of}
use Rattle.exec_value.specs.declared.kinds.Kind.{Kind}
use Rattle.exec_value.specs.declared.kinds.Kind.TheVariants as kind
use Rattle.exec_job.specs.Takes.{is_element}
use Rattle.exec_job.specs.declared.job.Job.{Job}
use Rattle.exec_job.specs.declared.job.Job.TheVariants as job
use Rattle.node_tree.specs.declared.context.Context.{Context}
use Rattle.node_tree.specs.declared.context.Context.TheVariants as context
use Rattle.plan_rules.specs.declared.node.Query.{Query}
use Rattle.plan_rules.specs.declared.node.Query.TheVariants as query
use Rattle.plan_rules.specs.declared.node.Node.{Node}
use Rattle.plan_rules.specs.declared.node.Node.TheVariants.{Input, Just, JustError, JustStopped, Schedule, Delay, ReadEnv, Then, UponError, UponStopped, LetValue, LetError, LetStopped, StartsOn, ContinuesOn, StoppedAsOptional, StoppedAsError, Bulk, WhenAll, Part, Unstoppable, Ahead}
use Rattle.plan_rules.specs.Images.{has_maybe}
use Rattle.plan_shape.specs.declared.limits.TheConstants.{MOST_TURNS}
use Rattle.plan_shape.specs.Conditions.{IsLawfulJob, MeetsConditions}
use Rattle.plan_shape.specs.Finish.{is_of_version_2}
use Rattle.plan_parts.specs.declared.reading.Reading.{Reading}
use Rattle.plan_parts.specs.declared.reading.Reading.TheVariants.{Good}
use Rattle.plan_parts.specs.Reading.{known, mapped}
use Rattle.plan_parts.specs.Jobs.{job_of}
use Rattle.plan_reader.specs.declared.node_word.Let.{Let as LetWord}
use Rattle.plan_reader.specs.declared.node_word.Let.TheVariants as binding
use Rattle.plan_reader.specs.NodeParts.{context_named, of_named, picking, query_named}
use Rattle.plan_reader.specs.NodeWords.{node_named}
use Rattle.plan_reader.specs.Walked.{Walked, Listed, child_at, each, last, list_at, make, named_node, none_listed, parts, take, take_bulk, walk}
use Rattle.plan_writer.specs.declared.below.Below.{Below}
use Rattle.plan_writer.specs.declared.below.Below.TheVariants as below
use Rattle.plan_writer.specs.Held.{IsHeldNode}
use Rattle.plan_writer.specs.Jobs.{job_data}
use Rattle.plan_writer.specs.Nodes.{below_of, context_name, kind_name, listed, node_object, query_name}
use Rattle.plan_writer.proofs.JobsBack.{constants-back, count-back, job-back, name-back}

-- a walk over the nodes of an array
abbrev pub walk_list : (ℕ → Data) → ℕ → List ℕ → Walked → Listed
walk_list value levels list w = each (walk levels) (items_of (map value list)) (none_listed w)

-- where a walk stands behind the children of a node
abbrev pub after_children : (ℕ → Data) → ℕ → Below → List ℕ → Walked → Walked
after_children value levels below.Nothing list w = w
after_children value levels (below.Child child) list w = walk levels (value child) w
after_children value levels (below.ChildAndBodies child) list w =
    (walk_list value levels list (walk levels (value child) w)).walked
after_children value levels below.Children list w = (walk_list value levels list w).walked
after_children value levels (below.Pair first second) list w =
    walk levels (value second) (walk levels (value first) w)

-- the children got the numbers that they have
abbrev pub AreNumbered : (ℕ → Data) → ℕ → Below → List ℕ → Walked → Type 0
AreNumbered value levels below.Nothing list w = ⊤
AreNumbered value levels (below.Child child) list w = last (walk levels (value child) w) ≡ child
AreNumbered value levels (below.ChildAndBodies child) list w =
    (last (walk levels (value child) w) ≡ child)
    × ((walk_list value levels list (walk levels (value child) w)).numbers ≡ list)
AreNumbered value levels below.Children list w = (walk_list value levels list w).numbers ≡ list
AreNumbered value levels (below.Pair first second) list w =
    (last (walk levels (value first) w) ≡ first)
    × (last (walk levels (value second) (walk levels (value first) w)) ≡ second)

-- words
context-back : (on : Context) → known (context_named (context_name on)) ≡ Good on
context-back context.Loop = refl
context-back context.Pool = refl

query-back : (q : Query) → known (query_named (query_name q)) ≡ Good q
query-back query.Stop = refl
query-back query.Record = refl

of-back : (of : Kind) → has_maybe of ≡ true → of_named (kind_name of) ≡ Good of
of-back kind.Int is = refl
of-back kind.Text is = refl
of-back of is = absurd (false≢true is)

-- the job of a bulk
pub element-lawful : (j : Job) → is_element j ≡ true → IsLawfulJob j
element-lawful (job.Fail name) is = absurd (false≢true is)
element-lawful (job.Give values) is = absurd (false≢true is)
element-lawful (job.At place) is = absurd (false≢true is)
element-lawful j is = tt

-- a node over one child, with a part that is read back
over-child : {A : Type 0} (g : ℕ → A → Node) (a : A) (r : Reading A) (child : ℕ) (v : Walked)
    → r ≡ Good a → last v ≡ child → take (mapped (g (last v)) r) v ≡ make (g child a) v
over-child g a r child v back is =
    ap (λ x. take (mapped (g (last v)) x) v) back ∙ ap (λ k. make (g k a) v) is

over-bodies : (b : LetWord) (pick : Job) (child : ℕ) (bodies : List ℕ) (v : Walked) (l : Listed)
    → job_of (job_data pick) ≡ Good pick → last v ≡ child → l.numbers ≡ bodies
    → take (mapped (picking b (last v) l.numbers) (job_of (job_data pick))) l.walked
    ≡ make (picking b child bodies pick) l.walked
over-bodies b pick child bodies v l back is are =
    ap (λ x. take (mapped (picking b (last v) l.numbers) x) l.walked) back
    ∙ ap (λ k. make (picking b k l.numbers pick) l.walked) is
    ∙ ap (λ ks. make (picking b child ks pick) l.walked) are

over-bulk : (j : Job) (child : ℕ) (v : Walked) → job_of (job_data j) ≡ Good j → is_element j ≡ true
    → last v ≡ child → take_bulk (last v) (job_of (job_data j)) v ≡ make (Bulk child j) v
over-bulk j child v back element is =
    ap (λ x. take_bulk (last v) x v) back
    ∙ cond-true (is_element j) (make (Bulk (last v) j) v) (make (Bulk (last v) job.Neg) (record v { elements = false })) element
    ∙ ap (λ k. make (Bulk k j) v) is

pub node-walked : (node : Node) (value : ℕ → Data) (levels : ℕ) (w : Walked)
    → MeetsConditions node → IsHeldNode node → (is_of_version_2 node ≡ true → w.is_first ≡ false)
    → AreNumbered value levels (below_of node) (listed node) w
    → walk (suc levels) (node_object node value) w
    ≡ make node (after_children value levels (below_of node) (listed node) w)
unfolding walk parts child_at list_at
node-walked Input value levels w meets held old are = refl
node-walked (Just values) value levels w meets held old are =
    ap (λ r. take (mapped Just r) w) (constants-back values meets held)
node-walked (JustError error) value levels w meets held old are =
    ap (λ r. take (mapped JustError r) w) (name-back error meets)
node-walked JustStopped value levels w meets held old are = refl
node-walked (Schedule on) value levels w meets held old are =
    ap (λ r. take (mapped Schedule r) w) (context-back on)
node-walked (Delay turns) value levels w meets held old are =
    ap (λ r. take (mapped Delay r) w)
    (count-back 0 MOST_TURNS turns (omega arith) meets (let most : turns ≤ 1000000 = meets in omega arith))
node-walked (ReadEnv q) value levels w meets held old are =
    ap (λ r. take (mapped ReadEnv r) w) (query-back q)
node-walked (Then child j) value levels w meets held old are =
    over-child Then j (job_of (job_data j)) child (walk levels (value child) w) (job-back j meets held) are
node-walked (UponError child j) value levels w meets held old are =
    over-child UponError j (job_of (job_data j)) child (walk levels (value child) w) (job-back j meets held) are
node-walked (UponStopped child j) value levels w meets held old are =
    over-child UponStopped j (job_of (job_data j)) child (walk levels (value child) w) (job-back j meets held) are
node-walked (LetValue child pick bodies) value levels w meets held old are =
    over-bodies binding.Value pick child bodies (walk levels (value child) w)
    (walk_list value levels bodies (walk levels (value child) w)) (job-back pick meets held) are.0 are.1
node-walked (LetError child pick bodies) value levels w meets held old are =
    over-bodies binding.Error pick child bodies (walk levels (value child) w)
    (walk_list value levels bodies (walk levels (value child) w)) (job-back pick meets held) are.0 are.1
node-walked (LetStopped child pick bodies) value levels w meets held old are =
    over-bodies binding.Stopped pick child bodies (walk levels (value child) w)
    (walk_list value levels bodies (walk levels (value child) w)) (job-back pick meets held) are.0 are.1
node-walked (StartsOn on child) value levels w meets held old are =
    over-child (λ k c. StartsOn c k) on (known (context_named (context_name on))) child
    (walk levels (value child) w) (context-back on) are
node-walked (ContinuesOn child on) value levels w meets held old are =
    over-child ContinuesOn on (known (context_named (context_name on))) child
    (walk levels (value child) w) (context-back on) are
node-walked (StoppedAsOptional child of) value levels w meets held old are =
    over-child StoppedAsOptional of (of_named (kind_name of)) child (walk levels (value child) w) (of-back of meets) are
node-walked (StoppedAsError child error) value levels w meets held old are =
    over-child StoppedAsError error _ child (walk levels (value child) w) (name-back error meets) are
node-walked (Bulk child j) value levels w meets held old are =
    over-bulk j child (walk levels (value child) w) (job-back j (element-lawful j meets) held) meets are
node-walked (WhenAll children) value levels w meets held old are =
    ap (λ ks. make (WhenAll ks) (walk_list value levels children w).walked) are
node-walked (Part bulk part) value levels w meets held old are = absurd meets
node-walked (Unstoppable child) value levels w meets held old are =
    ap (λ b. named_node (walk levels) (node_named b (codes "unstoppable")) (node_object (Unstoppable child) value) w) (old refl)
    ∙ ap (λ k. make (Unstoppable k) (walk levels (value child) w)) are
node-walked (Ahead first second) value levels w meets held old are =
    let front : Walked = walk levels (value first) w in
    let back : Walked = walk levels (value second) front in
    ap (λ b. named_node (walk levels) (node_named b (codes "ahead")) (node_object (Ahead first second) value) w) (old refl)
    ∙ ap (λ k. make (Ahead k (last back)) back) are.0
    ∙ ap (λ k. make (Ahead first k) back) are.1
