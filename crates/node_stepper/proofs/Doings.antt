-- A step does what its node's kind says.
use Rattle.std.proofs.Common.{◌≡◌, sym, subst}
use Rattle.std.specs.Prelude.{Option, Some, None}
use Rattle.life_rules.specs.declared.event.Name.{Name}
use Rattle.plan_rules.specs.declared.node.Node.{Node}
use Rattle.plan_rules.specs.declared.node.Node.TheVariants.{Input, Just, JustError, JustStopped, ReadEnv, Then, UponError, UponStopped, StoppedAsOptional, StoppedAsError, LetValue, LetError, LetStopped}
use Rattle.plan_shape.specs.Blueprint.{Blueprint}
use Rattle.table_steps.specs.Views.{Board}
use Rattle.exec_recv.specs.declared.next.Next.{Next}
use Rattle.exec_recv.specs.Seats.{HandSeat}
use Rattle.exec_recv.specs.Sites.{node_at}
use Rattle.exec_adapt.specs.Adapts.{Adapts, MakesOwn}
use Rattle.exec_adapt.specs.Kinds.{IsFactoryNode, IsAdaptorNode}
use Rattle.exec_let.specs.Kinds.{IsLetNode}
use Rattle.exec_let.specs.Lets.{StepsLet}
use Rattle.node_stepper.specs.Does.{StepsBy, StepsNode}

module _ (board : Board Blueprint) (x : Name) (next : Next) (old new : HandSeat) where
  -- by the node that the plan has there
  pub does-at : (node : Option Node) → node_at board x ≡ node → StepsBy node board x next old new → StepsNode board x next old new
  does-at node at does = subst (λ (o : Option Node). StepsBy o board x next old new) (sym at) does

  -- Several nodes are of one kind.
  pub factory-does : (node : Option Node) → IsFactoryNode node → MakesOwn board x next old new → StepsBy node board x next old new
  factory-does None kind does = absurd kind
  factory-does (Some Input) kind does = does
  factory-does (Some (Just values)) kind does = does
  factory-does (Some (JustError name)) kind does = does
  factory-does (Some JustStopped) kind does = does
  factory-does (Some (ReadEnv query)) kind does = does
  factory-does (Some node) kind does = absurd kind

  pub adaptor-does : (node : Option Node) → IsAdaptorNode node → Adapts board x next old new → StepsBy node board x next old new
  adaptor-does None kind does = absurd kind
  adaptor-does (Some (Then child job)) kind does = does
  adaptor-does (Some (UponError child job)) kind does = does
  adaptor-does (Some (UponStopped child job)) kind does = does
  adaptor-does (Some (StoppedAsOptional child of)) kind does = does
  adaptor-does (Some (StoppedAsError child name)) kind does = does
  adaptor-does (Some node) kind does = absurd kind

  pub let-does : (node : Option Node) → IsLetNode node → StepsLet board x next old new → StepsBy node board x next old new
  let-does None kind does = absurd kind
  let-does (Some (LetValue child pick bodies)) kind does = does
  let-does (Some (LetError child pick bodies)) kind does = does
  let-does (Some (LetStopped child pick bodies)) kind does = does
  let-does (Some node) kind does = absurd kind
