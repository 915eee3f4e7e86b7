-- What nodes and kinds are called.
use Rattle.std.specs.Prelude.{ℕ, List, codes}
use Rattle.exec_value.specs.declared.kinds.Kind.{Kind}
use Rattle.exec_value.specs.declared.kinds.Kind.TheVariants as kind
use Rattle.plan_rules.specs.declared.node.Node.{Node}
use Rattle.plan_rules.specs.declared.node.Node.TheVariants.{Input, Just, JustError, JustStopped, Schedule, Delay, ReadEnv, Then, UponError, UponStopped, LetValue, LetError, LetStopped, StartsOn, ContinuesOn, StoppedAsOptional, StoppedAsError, Bulk, WhenAll, Part, Unstoppable, Ahead}

-- the name of a node, and the clause of the standard that has it
abbrev pub name_of : Node → List ℕ
name_of Input = codes "input [exec.just]"
name_of (Just values) = codes "just [exec.just]"
name_of (JustError e) = codes "just_error [exec.just]"
name_of JustStopped = codes "just_stopped [exec.just]"
name_of (Schedule on) = codes "schedule [exec.schedule]"
name_of (Delay turns) = codes "delay"
name_of (ReadEnv query) = codes "read_env [exec.read.env]"
name_of (Then child job) = codes "then [exec.then]"
name_of (UponError child job) = codes "upon_error [exec.then]"
name_of (UponStopped child job) = codes "upon_stopped [exec.then]"
name_of (LetValue child pick bodies) = codes "let_value [exec.let]"
name_of (LetError child pick bodies) = codes "let_error [exec.let]"
name_of (LetStopped child pick bodies) = codes "let_stopped [exec.let]"
name_of (StartsOn on child) = codes "starts_on [exec.starts.on]"
name_of (ContinuesOn child on) = codes "continues_on [exec.continues.on]"
name_of (StoppedAsOptional child of) = codes "stopped_as_optional [exec.stopped.opt]"
name_of (StoppedAsError child e) = codes "stopped_as_error [exec.stopped.err]"
name_of (Bulk child job) = codes "bulk [exec.bulk]"
name_of (WhenAll children) = codes "when_all [exec.when.all]"
name_of (Part bulk part) = codes "part [exec.bulk]"
name_of (Unstoppable child) = codes "unstoppable [exec.unstoppable]"
name_of (Ahead first second) = codes "ahead, spawn_future of P3149"

-- what a box says of a datum of this kind
abbrev pub kind_word : Kind → List ℕ
kind_word kind.Int = codes "int"
kind_word kind.Text = codes "text"
kind_word kind.Row = codes "row"
kind_word kind.MaybeInt = codes "optional-int"
kind_word kind.MaybeText = codes "optional-text"
