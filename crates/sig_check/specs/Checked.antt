-- What a check answers.
use Rattle.std.specs.Prelude.{◌≡◌, ⊤, ℕ, List, length, slice_get, Some}
use Rattle.plan_kinds.specs.declared.sig.Sig.{Sig}
use Rattle.plan_kinds.specs.Shapes.{Shape}
use Rattle.plan_kinds.specs.Signatures.{sig_of}
use Rattle.plan_kinds.specs.Reached.{Reaches, IsFirstMismatch}
use Rattle.plan_shape.specs.Blueprint.{Blueprint}
use Rattle.sig_check.specs.declared.fault.SigFault.{SigFault}
use Rattle.sig_check.specs.declared.fault.SigFault.TheVariants.{Kinds, NoMemory}

-- the signatures of a plan's nodes by their numbers, each under the arguments that the node runs
-- under
pub record AreSignatures (plan : Blueprint) (sigs : List Sig) : Type 0 where
  pub size : length sigs ≡ length plan.nodes
  pub each : (n : ℕ) (a : Shape) → Reaches plan.nodes plan.settings.input n a →
      slice_get sigs n ≡ Some (sig_of plan.nodes n a)

-- the kinds of this node are the first that don't match; want of memory says nothing of the plan
abbrev pub IsFaultOf : Blueprint → SigFault → Type 0
IsFaultOf plan (Kinds n) = IsFirstMismatch plan.nodes plan.settings.input n
IsFaultOf plan NoMemory = ⊤
