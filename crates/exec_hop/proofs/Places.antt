-- Which nodes hop or shelter, and what they make of their child's completion.
use Rattle.std.specs.Prelude.{Contains}
use Rattle.std.specs.Option.{option_to_list}
use Rattle.std.proofs.Common.{◌≡◌, ℕ, false, [], ◌∷◌, Option, Some, None, refl, arith}
use Rattle.std.proofs.lemmas.Option.{same_Some}
use Rattle.exec_value.specs.declared.outcome.Completion.{Completion}
use Rattle.life_rules.specs.declared.event.Name.{Name}
use Rattle.plan_rules.specs.declared.node.Node.{Node}
use Rattle.plan_rules.specs.declared.node.Node.TheVariants.{Schedule, StartsOn, ContinuesOn, Unstoppable}
use Rattle.plan_shape.specs.Blueprint.{Blueprint}
use Rattle.plan_shape.specs.Children.{children_of}
use Rattle.plan_shape.specs.PlanTree.{spawns}
use Rattle.table_steps.specs.Views.{Board}
use Rattle.start_laws.specs.Nodes.{AwaitsOne, MakesImage, image_of, plain_children}
use Rattle.exec_recv.specs.Sites.{IsSite, node_at, plan_at}
use Rattle.step_parts.specs.Takes.{IsOnlyChild}
use Rattle.step_parts.proofs.Only.{only-named}

-- the one child of such a node
abbrev pub hop_child : Node → Option ℕ
hop_child (StartsOn on child) = Some child
hop_child (ContinuesOn child on) = Some child
hop_child (Unstoppable child) = Some child
hop_child node = None

abbrev pub HopsOrShelters : Node → Type 0
HopsOrShelters (Schedule on) = Unit {0}
HopsOrShelters (StartsOn on child) = Unit {0}
HopsOrShelters (ContinuesOn child on) = Unit {0}
HopsOrShelters (Unstoppable child) = Unit {0}
HopsOrShelters node = ⊥

hop-children : (node : Node) → HopsOrShelters node → (n : ℕ) → children_of n node ≡ option_to_list (hop_child node)
hop-children (Schedule on) is n = refl
hop-children (StartsOn on child) is n = refl
hop-children (ContinuesOn child on) is n = refl
hop-children (Unstoppable child) is n = refl
hop-children node is n = absurd is

hop-spawns : (node : Node) → HopsOrShelters node → (k : ℕ) → spawns k node ≡ false
hop-spawns (Schedule on) is k = refl
hop-spawns (StartsOn on child) is k = refl
hop-spawns (ContinuesOn child on) is k = refl
hop-spawns (Unstoppable child) is k = refl
hop-spawns node is k = absurd is

pub hop-only : (board : Board Blueprint) (x : Name) (node : Node) → IsSite board → node_at board x ≡ Some node → HopsOrShelters node →
    IsOnlyChild board x (hop_child node)
hop-only board x node site at is =
    only-named board (plan_at board) x node (hop_child node) site.over at (hop-children node is x.node) (hop-spawns node is)

pub hop-awaits : (node : Node) → HopsOrShelters node → AwaitsOne node
hop-awaits (Schedule on) is = tt
hop-awaits (StartsOn on child) is = tt
hop-awaits (ContinuesOn child on) is = tt
hop-awaits (Unstoppable child) is = tt
hop-awaits node is = absurd is

-- its child runs with its arguments
first-there : (x child : ℕ) → Some x ≡ Some child → Contains (x ∷ []) child
first-there x child e = (0, omega arith, same_Some x child e)

pub hop-runs : (node : Node) → HopsOrShelters node → (child : ℕ) → hop_child node ≡ Some child → Contains (plain_children node) child
hop-runs (Schedule on) is child names = cc
hop-runs (StartsOn on x) is child names = first-there x child names
hop-runs (ContinuesOn x on) is child names = first-there x child names
hop-runs (Unstoppable x) is child names = first-there x child names
hop-runs node is child names = absurd is

-- it completes as its child does, unless a request was made before the start
pub hop-image : (node : Node) → HopsOrShelters node → (done : Completion) → image_of node false done ≡ done
hop-image (Schedule on) is done = refl
hop-image (StartsOn on child) is done = refl
hop-image (ContinuesOn child on) is done = refl
hop-image (Unstoppable child) is done = refl
hop-image node is done = absurd is

pub hop-makes : (node : Node) → HopsOrShelters node → (child : ℕ) → hop_child node ≡ Some child → (done : Completion) → MakesImage node done
hop-makes (Schedule on) is child names done = cc
hop-makes (StartsOn on x) is child names done = tt
hop-makes (ContinuesOn x on) is child names done = tt
hop-makes (Unstoppable x) is child names done = tt
hop-makes node is child names done = absurd is
