-- Which nodes this crate steps.
use Rattle.std.specs.Prelude.{⊤, ℕ, Option, Some, None}
use Rattle.plan_rules.specs.declared.node.Node.{Node}
use Rattle.plan_rules.specs.declared.node.Node.TheVariants.{Input, Just, JustError, JustStopped, ReadEnv, Then, UponError, UponStopped, StoppedAsOptional, StoppedAsError}

-- the node completes by itself: as the plan says, or with what its environment answers
abbrev pub IsFactory : Node → Type 0
IsFactory Input = ⊤
IsFactory (Just values) = ⊤
IsFactory (JustError name) = ⊤
IsFactory JustStopped = ⊤
IsFactory (ReadEnv query) = ⊤
IsFactory node = ⊥

-- the node makes an image of what its one child completes with
abbrev pub IsAdaptor : Node → Type 0
IsAdaptor (Then child job) = ⊤
IsAdaptor (UponError child job) = ⊤
IsAdaptor (UponStopped child job) = ⊤
IsAdaptor (StoppedAsOptional child of) = ⊤
IsAdaptor (StoppedAsError child name) = ⊤
IsAdaptor node = ⊥

-- that child
abbrev pub adapted : Node → Option ℕ
adapted (Then child job) = Some child
adapted (UponError child job) = Some child
adapted (UponStopped child job) = Some child
adapted (StoppedAsOptional child of) = Some child
adapted (StoppedAsError child name) = Some child
adapted node = None

-- the node completes with what the plan or its environment says, which is no error of a name
abbrev pub IsPlainFactory : Node → Type 0
IsPlainFactory (Just values) = ⊤
IsPlainFactory JustStopped = ⊤
IsPlainFactory (ReadEnv query) = ⊤
IsPlainFactory node = ⊥

-- the three kinds that this crate steps
abbrev pub IsFactoryNode : Option Node → Type 0
IsFactoryNode None = ⊥
IsFactoryNode (Some node) = IsFactory node

abbrev pub IsAdaptorNode : Option Node → Type 0
IsAdaptorNode None = ⊥
IsAdaptorNode (Some node) = IsAdaptor node

abbrev pub IsReceiverNode : Option Node → Type 0
IsReceiverNode None = ⊤
IsReceiverNode (Some node) = ⊥
