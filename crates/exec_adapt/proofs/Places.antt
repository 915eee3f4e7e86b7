-- Where the nodes stand that are stepped here, and whose starts they have.
use Rattle.std.specs.Prelude.{Contains, is_some}
use Rattle.std.specs.Option.{option_to_list}
use Rattle.std.proofs.Common.{◌≡◌, ℕ, Bool, true, false, [], ◌∷◌, Option, Some, None, refl, sym, ap, subst, arith}
use Rattle.std.proofs.lemmas.Option.{same_Some}
use Rattle.life_rules.specs.declared.event.Name.{Name}
use Rattle.plan_rules.specs.declared.node.Node.{Node}
use Rattle.plan_rules.specs.declared.node.Node.TheVariants.{Input, Just, JustError, JustStopped, ReadEnv, Then, UponError, UponStopped, StoppedAsOptional, StoppedAsError}
use Rattle.plan_shape.specs.Blueprint.{Blueprint}
use Rattle.plan_shape.specs.Children.{children_of}
use Rattle.plan_shape.specs.PlanTree.{is_when_all, spawns}
use Rattle.table_steps.specs.Views.{Board}
use Rattle.exec_recv.specs.Sites.{IsSite, node_at, plan_at}
use Rattle.start_laws.specs.Nodes.{plain_children, AwaitsOne, MakesImage, MayHaveSeen}
use Rattle.exec_value.specs.declared.outcome.Completion.{Completion}
use Rattle.step_parts.specs.Takes.{IsOnlyChild, TakesOne}
use Rattle.step_parts.proofs.Only.{only-named}
use Rattle.exec_adapt.specs.Kinds.{IsFactory, IsFactoryNode, IsAdaptor, IsAdaptorNode, IsReceiverNode, adapted}

-- an adaptor has one child, which runs with its arguments, and no source
pub adaptor-is : (node : Node) (child : ℕ) → adapted node ≡ Some child → IsAdaptor node
adaptor-is (Then x job) child adapts = tt
adaptor-is (UponError x job) child adapts = tt
adaptor-is (UponStopped x job) child adapts = tt
adaptor-is (StoppedAsOptional x of) child adapts = tt
adaptor-is (StoppedAsError x name) child adapts = tt
adaptor-is node child adapts = cc

adaptor-children : (node : Node) (child n : ℕ) → adapted node ≡ Some child → children_of n node ≡ option_to_list (Some child)
adaptor-children (Then x job) child n adapts = ap (λ (k : ℕ). k ∷ []) (same_Some x child adapts)
adaptor-children (UponError x job) child n adapts = ap (λ (k : ℕ). k ∷ []) (same_Some x child adapts)
adaptor-children (UponStopped x job) child n adapts = ap (λ (k : ℕ). k ∷ []) (same_Some x child adapts)
adaptor-children (StoppedAsOptional x of) child n adapts = ap (λ (k : ℕ). k ∷ []) (same_Some x child adapts)
adaptor-children (StoppedAsError x name) child n adapts = ap (λ (k : ℕ). k ∷ []) (same_Some x child adapts)
adaptor-children node child n adapts = cc

adaptor-spawns : (node : Node) → IsAdaptor node → (k : ℕ) → spawns k node ≡ false
adaptor-spawns (Then x job) is k = refl
adaptor-spawns (UponError x job) is k = refl
adaptor-spawns (UponStopped x job) is k = refl
adaptor-spawns (StoppedAsOptional x of) is k = refl
adaptor-spawns (StoppedAsError x name) is k = refl
adaptor-spawns node is k = absurd is

first-there : (x child : ℕ) → Some x ≡ Some child → Contains (x ∷ []) child
first-there x child e = (0, omega arith, same_Some x child e)

pub adaptor-runs : (node : Node) (child : ℕ) → adapted node ≡ Some child → Contains (plain_children node) child
adaptor-runs (Then x job) child adapts = first-there x child adapts
adaptor-runs (UponError x job) child adapts = first-there x child adapts
adaptor-runs (UponStopped x job) child adapts = first-there x child adapts
adaptor-runs (StoppedAsOptional x of) child adapts = first-there x child adapts
adaptor-runs (StoppedAsError x name) child adapts = first-there x child adapts
adaptor-runs node child adapts = cc

pub adaptor-plain : (node : Node) → IsAdaptor node → is_when_all node ≡ false
adaptor-plain (Then x job) is = refl
adaptor-plain (UponError x job) is = refl
adaptor-plain (UponStopped x job) is = refl
adaptor-plain (StoppedAsOptional x of) is = refl
adaptor-plain (StoppedAsError x name) is = refl
adaptor-plain node is = absurd is

pub adaptor-awaits : (node : Node) → IsAdaptor node → AwaitsOne node
adaptor-awaits (Then x job) is = tt
adaptor-awaits (UponError x job) is = tt
adaptor-awaits (UponStopped x job) is = tt
adaptor-awaits (StoppedAsOptional x of) is = tt
adaptor-awaits (StoppedAsError x name) is = tt
adaptor-awaits node is = absurd is

pub adaptor-makes : (node : Node) → IsAdaptor node → (done : Completion) → MakesImage node done
adaptor-makes (Then x job) is done = tt
adaptor-makes (UponError x job) is done = tt
adaptor-makes (UponStopped x job) is done = tt
adaptor-makes (StoppedAsOptional x of) is done = tt
adaptor-makes (StoppedAsError x name) is done = tt
adaptor-makes node is done = absurd is

pub adaptor-sees : (node : Node) → IsAdaptor node → (saw : Bool) → MayHaveSeen node saw
adaptor-sees (Then x job) is saw = tt
adaptor-sees (UponError x job) is saw = tt
adaptor-sees (UponStopped x job) is saw = tt
adaptor-sees (StoppedAsOptional x of) is saw = tt
adaptor-sees (StoppedAsError x name) is saw = tt
adaptor-sees node is saw = absurd is

-- a factory has none
factory-children : (node : Node) (n : ℕ) → IsFactory node → children_of n node ≡ option_to_list None
factory-children Input n is = refl
factory-children (Just values) n is = refl
factory-children (JustError name) n is = refl
factory-children JustStopped n is = refl
factory-children (ReadEnv query) n is = refl
factory-children node n is = absurd is

factory-spawns : (node : Node) → IsFactory node → (k : ℕ) → spawns k node ≡ false
factory-spawns Input is k = refl
factory-spawns (Just values) is k = refl
factory-spawns (JustError name) is k = refl
factory-spawns JustStopped is k = refl
factory-spawns (ReadEnv query) is k = refl
factory-spawns node is k = absurd is

-- the node that stands there
pub factory-at : (o : Option Node) → IsFactoryNode o → is_some o ≡ true
factory-at None is = absurd is
factory-at (Some node) is = refl

pub adaptor-at : (o : Option Node) → IsAdaptorNode o → is_some o ≡ true
adaptor-at None is = absurd is
adaptor-at (Some node) is = refl

pub receiver-at : (o : Option Node) → IsReceiverNode o → o ≡ None
receiver-at None is = refl
receiver-at (Some node) is = absurd is

pub adaptor-some : (node : Node) → IsAdaptor node → adapted node ≡ None → ⊥
adaptor-some (Then x job) is none = cc
adaptor-some (UponError x job) is none = cc
adaptor-some (UponStopped x job) is none = cc
adaptor-some (StoppedAsOptional x of) is none = cc
adaptor-some (StoppedAsError x name) is none = cc
adaptor-some node is none = is

-- a node of the plan, in the table over it
module _ (board : Board Blueprint) (x : Name) (node : Node) (site : IsSite board) (at : node_at board x ≡ Some node) where
  pub adaptor-only : (child : ℕ) → adapted node ≡ Some child → IsOnlyChild board x (Some child)
  adaptor-only child adapts =
      only-named board (plan_at board) x node (Some child) site.over at (adaptor-children node child x.node adapts)
      (adaptor-spawns node (adaptor-is node child adapts))

  pub adaptor-one : (child : ℕ) → adapted node ≡ Some child → TakesOne (node_at board x) (Some child)
  adaptor-one child adapts =
      subst (λ (o : Option Node). TakesOne o (Some child)) (sym at) (adaptor-awaits node (adaptor-is node child adapts), adaptor-runs node child adapts)

  pub factory-only : IsFactory node → IsOnlyChild board x None
  factory-only is =
      only-named board (plan_at board) x node None site.over at (factory-children node x.node is) (factory-spawns node is)
