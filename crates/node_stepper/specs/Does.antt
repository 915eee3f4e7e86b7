-- What a step of a node does, by the node's kind.
use Rattle.std.specs.Prelude.{Option, Some, None}
use Rattle.plan_rules.specs.declared.node.Node.{Node}
use Rattle.plan_rules.specs.declared.node.Node.TheVariants.{Input, Just, JustError, JustStopped, ReadEnv, Then, UponError, UponStopped, StoppedAsOptional, StoppedAsError, Schedule, StartsOn, ContinuesOn, Unstoppable, LetValue, LetError, LetStopped, WhenAll, Bulk, Part, Delay, Ahead}
use Rattle.exec_recv.specs.Sites.{Does, node_at}
use Rattle.exec_adapt.specs.Adapts.{Adapts, MakesOwn}
use Rattle.exec_adapt.specs.Receives.{ReceivesTop}
use Rattle.exec_ahead.specs.Parks.{ParksAs}
use Rattle.exec_all.specs.Steps.{StepsAll}
use Rattle.exec_bulk.specs.Parts.{StepsPart}
use Rattle.exec_bulk.specs.Steps.{StepsBulk}
use Rattle.exec_delay.specs.Steps.{StepsDelay}
use Rattle.exec_hop.specs.Hops.{ContinuesOn as ContinuesOnce, Schedules, Shelters, StartsOn as StartsOnce}
use Rattle.exec_let.specs.Lets.{StepsLet}

-- The receiver node is none of the plan's.
abbrev pub StepsBy : Option Node → Does
StepsBy None = ReceivesTop
StepsBy (Some Input) = MakesOwn
StepsBy (Some (Just values)) = MakesOwn
StepsBy (Some (JustError name)) = MakesOwn
StepsBy (Some JustStopped) = MakesOwn
StepsBy (Some (ReadEnv query)) = MakesOwn
StepsBy (Some (Then child job)) = Adapts
StepsBy (Some (UponError child job)) = Adapts
StepsBy (Some (UponStopped child job)) = Adapts
StepsBy (Some (StoppedAsOptional child of)) = Adapts
StepsBy (Some (StoppedAsError child name)) = Adapts
StepsBy (Some (Schedule on)) = Schedules
StepsBy (Some (StartsOn on child)) = StartsOnce
StepsBy (Some (ContinuesOn child on)) = ContinuesOnce
StepsBy (Some (Unstoppable child)) = Shelters
StepsBy (Some (LetValue child pick bodies)) = StepsLet
StepsBy (Some (LetError child pick bodies)) = StepsLet
StepsBy (Some (LetStopped child pick bodies)) = StepsLet
StepsBy (Some (WhenAll children)) = StepsAll
StepsBy (Some (Bulk child job)) = StepsBulk
StepsBy (Some (Part bulk part)) = StepsPart
StepsBy (Some (Delay turns)) = StepsDelay
StepsBy (Some (Ahead first second)) = λ board x next old new.
    ParksAs board x (Some (Ahead first second)) next old new

abbrev pub StepsNode : Does
StepsNode board x next old new = StepsBy (node_at board x) board x next old new
