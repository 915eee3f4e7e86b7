-- The way down a plan, one level at a time.
use Rattle.std.proofs.Common.{◌≡◌, ℕ, zero, suc, ◌-◌, ◌<◌, true, false, nat_eq, List, Some, None, refl, sym, arith, sub-one}
use Rattle.std.specs.Prelude.{nat_le, option_and_then, position, slice_get, if◌then◌else◌}
use Rattle.std.specs.Option.{option_map_or}
use Rattle.plan_rules.specs.declared.node.Node.{Node}
use Rattle.plan_places.specs.declared.path.Key.{Key}
use Rattle.plan_places.specs.declared.way.Step.{Step}
use Rattle.plan_places.specs.Paths.{at_step}
use Rattle.plan_places.specs.Ways.{step_among, step_to, way}

-- the step to a child in an array
pub among-some : (n : ℕ) (key : Key) (children : List ℕ) (i child : ℕ) → position (nat_le n) children ≡ Some i
    → slice_get children i ≡ Some child
    → Some (record { node = child; key = key; index = Some i }) ≡ step_among n key children
among-some n key children i child at is = rw (at, is) refl

pub among-none : (n : ℕ) (key : Key) (children : List ℕ) → position (nat_le n) children ≡ None
    → None ≡ step_among n key children
among-none n key children none = rw none refl

-- how the way goes on
abbrev on : List Node → ℕ → ℕ → List ℕ → ℕ → List ℕ
on nodes levels at path n =
    option_map_or (λ (step : Step). way nodes levels step.node (at_step path step.key step.index) n)
    (option_and_then (step_to n) (slice_get nodes at)) path

pub way-zero : (nodes : List Node) (levels at : ℕ) (path : List ℕ) (n : ℕ) → levels ≡ 0 → path ≡ way nodes levels at path n
unfolding way
way-zero nodes levels at path n is = rw is refl

way-suc : (nodes : List Node) (levels at : ℕ) (path : List ℕ) (n : ℕ) → 0 < levels
    → way nodes levels at path n ≡ (if nat_eq at n then path else on nodes (levels - 1) at path n)
unfolding way
way-suc nodes zero at path n some = absurd (omega arith)
way-suc nodes (suc levels) at path n some = rw sub-one refl

module _ (nodes : List Node) (levels at : ℕ) (path : List ℕ) (n : ℕ) (some : 0 < levels) where
  pub way-here : nat_eq at n ≡ true → path ≡ way nodes levels at path n
  way-here is = rw (way-suc nodes levels at path n some, is) refl

  module _ (other : nat_eq at n ≡ false) where
    pub way-out : slice_get nodes at ≡ None → path ≡ way nodes levels at path n
    way-out none = rw (way-suc nodes levels at path n some, other, none) refl

    pub way-stuck : (node : Node) → slice_get nodes at ≡ Some node → None ≡ step_to n node → path ≡ way nodes levels at path n
    way-stuck node is none = rw (way-suc nodes levels at path n some, other, is, sym none) refl

    pub way-on : (node : Node) (step : Step) → slice_get nodes at ≡ Some node → Some step ≡ step_to n node
        → way nodes (levels - 1) step.node (at_step path step.key step.index) n ≡ way nodes levels at path n
    way-on node step is goes = rw (way-suc nodes levels at path n some, other, is, sym goes) refl
