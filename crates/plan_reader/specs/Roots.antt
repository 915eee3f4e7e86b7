-- Which nodes of a walk have no parent. A walk gives a parent to each node that it made before,
-- once, so that a builder of plans refuses its calls for their limits alone.
use Rattle.std.specs.Prelude.{◌≡◌, ◌<◌, ℕ, Bool, true, false, List, None}
use Rattle.plan_rules.specs.declared.node.Node.{Node}
use Rattle.plan_rules.specs.declared.settings.Settings.{Settings}
use Rattle.plan_shape.specs.Finish.{finish_fault, is_of_version_2, passes}
use Rattle.plan_shape.specs.Parents.{is_child}
use Rattle.plan_shape.specs.Refusals.{used_child}
use Rattle.plan_parts.specs.Reading.{any_fault}
use Rattle.plan_reader.specs.Limits.{plan_limit}
use Rattle.plan_reader.specs.Walked.{Walked, last}

-- each child stands before its parent
abbrev pub ChildrenFirst : List Node → Type 0
ChildrenFirst nodes = (child parent : ℕ) → is_child nodes child parent ≡ true → child < parent

-- so it is, and a plan of version 1 has no node that is of version 2
pub record AreTidy (is_first_version : Bool) (nodes : List Node) : Type 0 where
  pub ordered : ChildrenFirst nodes
  pub early : is_first_version ≡ true → (n : ℕ) → passes is_of_version_2 nodes n ≡ false

-- the same of a walk that found nothing wrong
abbrev pub IsTidy : Walked → Type 0
IsTidy w = any_fault w.faults ≡ false → AreTidy w.is_first w.nodes

-- these nodes have no parent yet, and none is named twice
abbrev pub AreRoots : Walked → List ℕ → Type 0
AreRoots w named = any_fault w.faults ≡ false → used_child w.nodes named ≡ None

-- nothing but a limit stands against a plan of these nodes under the last of them
abbrev pub HasOneRoot : Walked → Settings → Type 0
HasOneRoot w settings =
    any_fault w.faults ≡ false →
    finish_fault w.nodes (last w) settings ≡ plan_limit w.nodes settings
