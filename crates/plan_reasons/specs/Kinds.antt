-- Why the kinds of a node don't match, by the signatures of a plan's nodes.
use Rattle.std.specs.Prelude.{◌≡◌, ℕ, ◌+◌, ◌++◌, not, List, [], ◌∷◌, map, length, slice_get, is_some, Option, Some, None, unwrap_or, if◌then◌else◌, codes, decimal}
use Rattle.std.specs.Option.{option_and_then, option_map_or}
use Rattle.exec_value.specs.declared.kinds.Kind.TheVariants as kind
use Rattle.exec_job.specs.Takes.{is_int, takes}
use Rattle.exec_job.specs.declared.job.Job.{Job}
use Rattle.plan_rules.specs.declared.node.Node.{Node}
use Rattle.plan_rules.specs.declared.node.Node.TheVariants as node
use Rattle.plan_kinds.specs.declared.sig.Sig.{Sig}
use Rattle.plan_kinds.specs.Gives.{gives}
use Rattle.plan_reasons.specs.declared.kinds.Signed.{Signed}
use Rattle.plan_reasons.specs.Texts.{job_name, shown_kind, shape_text, wanted_by}
use Rattle.plan_kinds.specs.Shapes.{Shape, agrees, common, never_or}

-- there is a signature for each node
abbrev pub HasAll : Signed → Type 0
HasAll signed = length signed.sigs.now ≡ length signed.plan.now.nodes

-- the shape of a node's value
abbrev pub value_at : List Sig → ℕ → Shape
value_at sigs n = option_and_then (λ (sig : Sig). sig.value) (slice_get sigs n)

-- who takes something, and another gives something else
abbrev pub takes_gives : List ℕ → List ℕ → List ℕ → Shape → List ℕ
takes_gives taker wanted giver shape =
    taker ++ (codes " takes "
    ++ (wanted ++ (codes ", " ++ (giver ++ (codes " gives " ++ shape_text shape)))))

-- a job doesn't take what another gives
abbrev pub job_takes : Job → List ℕ → Shape → List ℕ
job_takes job giver shape = takes_gives (job_name job) (wanted_by job) giver shape

-- two give values that aren't of the same kinds
abbrev pub give_other : List ℕ → Shape → List ℕ → Shape → List ℕ
give_other giver shape other wanted =
    giver ++ (codes " gives " ++ (shape_text shape
    ++ (codes ", " ++ (other ++ (codes " gives " ++ shape_text wanted)))))

-- a pick gives something else than one int
abbrev pub pick_gives : Job → Shape → List ℕ
pick_gives pick shape =
    codes "a pick gives int, " ++ (job_name pick ++ (codes " gives " ++ shape_text shape))

-- a job on what an error or a stop gives, beside its child
abbrev pub upon_mismatch : Job → List ℕ → Shape → Shape → List ℕ
upon_mismatch job giver shape child =
    if never_or (takes job) shape
    then give_other (job_name job) (option_and_then (gives job) shape) (codes "its child") child
    else job_takes job giver shape

-- the kinds that the bodies of a let are to give beside this shape
abbrev pub joint : List Sig → Shape → List ℕ → Shape
joint sigs front bodies = common (front ∷ map (value_at sigs) bodies)

-- who gives them
abbrev pub giver_of : Shape → List ℕ
giver_of front = if is_some front then codes "its child" else codes "a body before it"

-- a body that gives other kinds, by its place
abbrev pub body_gives : ℕ → Shape → List ℕ → Shape → List ℕ
body_gives index shape other wanted =
    codes "bodies[" ++ (decimal index ++ (codes "] gives " ++ (shape_text shape
    ++ (codes ", " ++ (other ++ (codes " gives " ++ shape_text wanted))))))

-- the first of these bodies that gives others kinds than these
abbrev pub body_mismatch : List Sig → List ℕ → Shape → ℕ → List ℕ → Option (List ℕ)
body_mismatch sigs other wanted index [] = None
body_mismatch sigs other wanted index (body ∷ bodies) =
    if agrees wanted (value_at sigs body) then body_mismatch sigs other wanted (index + 1) bodies
    else Some (body_gives index (value_at sigs body) other wanted)

abbrev pub bodies_mismatch : List Sig → Shape → List ℕ → List ℕ
bodies_mismatch sigs front bodies =
    unwrap_or (body_mismatch sigs (giver_of front) (joint sigs front bodies) 0 bodies) []

-- the pick of a let on a value, and what the bodies give beside this shape
abbrev pub let_mismatch : List Sig → Job → List ℕ → Shape → Shape → List ℕ → List ℕ
let_mismatch sigs pick giver shape front bodies =
    if never_or (takes pick) shape
    then (if never_or is_int (option_and_then (gives pick) shape)
    then bodies_mismatch sigs front bodies
    else pick_gives pick (option_and_then (gives pick) shape))
    else job_takes pick giver shape

-- why the kinds of a node don't match
abbrev pub mismatch : List Sig → Node → List ℕ
mismatch sigs (node.Then child job) = job_takes job (codes "its child") (value_at sigs child)
mismatch sigs (node.UponError child job) =
    upon_mismatch job (codes "an error") (Some (kind.Text ∷ [])) (value_at sigs child)
mismatch sigs (node.UponStopped child job) =
    upon_mismatch job (codes "a stop") (Some []) (value_at sigs child)
mismatch sigs (node.LetValue child pick bodies) =
    let_mismatch sigs pick (codes "its child") (value_at sigs child) None bodies
mismatch sigs (node.LetError child pick bodies) =
    let_mismatch sigs pick (codes "an error") (Some (kind.Text ∷ [])) (value_at sigs child) bodies
mismatch sigs (node.LetStopped child pick bodies) =
    let_mismatch sigs pick (codes "a stop") (Some []) (value_at sigs child) bodies
mismatch sigs (node.StoppedAsOptional child of) =
    takes_gives (codes "stopped_as_optional") (shown_kind of) (codes "its child")
    (value_at sigs child)
mismatch sigs (node.Bulk child job) =
    takes_gives (codes "bulk") (codes "row") (codes "its child") (value_at sigs child)
mismatch sigs node = codes "its children give more than the 64 data that a value may have"

-- the same of node n of a plan
abbrev pub mismatch_at : List Node → List Sig → ℕ → List ℕ
mismatch_at nodes sigs n = option_map_or (mismatch sigs) (slice_get nodes n) []
