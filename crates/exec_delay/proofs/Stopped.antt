-- A `delay` is a node that a stop request stops.
use Rattle.std.proofs.Common.{◌≡◌, ℕ, refl}
use Rattle.std.specs.Prelude.{Option, Some, None, MatchOption}
use Rattle.plan_rules.specs.declared.node.Node.{Node}
use Rattle.plan_rules.specs.declared.node.Node.TheVariants.{Delay}
use Rattle.start_laws.specs.Leaves.{IsStoppable}
use Rattle.exec_delay.specs.Kinds.{IsDelay}

pub delay-of : (o : Option Node) → IsDelay o → (turns : ℕ) × (o ≡ Some (Delay turns))
delay-of None is = absurd is
delay-of (Some (Delay turns)) is = (turns, refl)
delay-of (Some node) is = absurd is

pub delay-stoppable : (o : Option Node) → IsDelay o → MatchOption o ⊥ IsStoppable
delay-stoppable None is = is
delay-stoppable (Some (Delay turns)) is = tt
delay-stoppable (Some node) is = absurd is
