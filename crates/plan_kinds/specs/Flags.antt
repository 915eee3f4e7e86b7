-- Whether a node may end by an error, and whether by stopped: by the signatures of its children and
-- of its bodies. A flag that is clear says that this never comes; one that is set promises nothing.
use Rattle.std.specs.Prelude.{Bool, true, false, ◌||◌, List}
use Rattle.std.specs.List.{list_any}
use Rattle.std.specs.Option.{option_map_or}
use Rattle.plan_rules.specs.Bulks.{job_of_bulk}
use Rattle.plan_rules.specs.declared.node.Node.{Node}
use Rattle.plan_rules.specs.declared.node.Node.TheVariants.{JustError, JustStopped, Schedule, Delay, Then, UponError, UponStopped, LetValue, LetError, LetStopped, StartsOn, ContinuesOn, StoppedAsOptional, StoppedAsError, Bulk, WhenAll, Part, Unstoppable, Ahead}
use Rattle.plan_kinds.specs.declared.sig.Sig.{Sig}
use Rattle.plan_kinds.specs.Gives.{may_fail}
use Rattle.plan_kinds.specs.Values.{only}

-- one of these may end by an error; by stopped
abbrev pub any_error : List Sig → Bool
any_error sigs = list_any (λ (sig : Sig). sig.may_error) sigs

abbrev pub any_stop : List Sig → Bool
any_stop sigs = list_any (λ (sig : Sig). sig.may_stop) sigs

-- a node may end by an error; those not listed never do
abbrev pub error_case : List Node → Node → List Sig → List Sig → Bool
error_case nodes (JustError e) own behind = true
error_case nodes (Then child job) own behind = (only own).may_error || may_fail job
error_case nodes (UponError child job) own behind = may_fail job
error_case nodes (UponStopped child job) own behind = (only own).may_error || may_fail job
error_case nodes (LetValue child pick bodies) own behind =
    (only own).may_error || may_fail pick || any_error behind
error_case nodes (LetError child pick bodies) own behind = may_fail pick || any_error behind
error_case nodes (LetStopped child pick bodies) own behind =
    (only own).may_error || may_fail pick || any_error behind
error_case nodes (StartsOn on child) own behind = (only own).may_error
error_case nodes (ContinuesOn child on) own behind = (only own).may_error
error_case nodes (StoppedAsOptional child of) own behind = (only own).may_error
error_case nodes (StoppedAsError child e) own behind = (only own).may_error || (only own).may_stop
error_case nodes (Bulk child job) own behind = (only own).may_error || may_fail job
error_case nodes (WhenAll children) own behind = any_error own
error_case nodes (Part bulk part) own behind = option_map_or may_fail (job_of_bulk nodes bulk) false
error_case nodes (Unstoppable child) own behind = (only own).may_error
error_case nodes (Ahead first second) own behind = any_error own
error_case nodes node own behind = false

-- a node may end by stopped; those not listed never do
abbrev pub stop_case : Node → List Sig → List Sig → Bool
stop_case JustStopped own behind = true
stop_case (Schedule on) own behind = true
stop_case (Delay turns) own behind = true
stop_case (Then child job) own behind = (only own).may_stop
stop_case (UponError child job) own behind = (only own).may_stop
stop_case (LetValue child pick bodies) own behind = (only own).may_stop || any_stop behind
stop_case (LetError child pick bodies) own behind = (only own).may_stop || any_stop behind
stop_case (LetStopped child pick bodies) own behind = any_stop behind
stop_case (StartsOn on child) own behind = true
stop_case (ContinuesOn child on) own behind = true
stop_case (Bulk child job) own behind = (only own).may_stop
stop_case (WhenAll children) own behind = true
stop_case (Unstoppable child) own behind = (only own).may_stop
stop_case (Ahead first second) own behind = any_stop own
stop_case node own behind = false
