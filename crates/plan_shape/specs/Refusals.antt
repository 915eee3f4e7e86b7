-- Which calls a builder refuses, and why.
use Rattle.std.specs.Prelude.{◌≡◌, ℕ, ◌+◌, Bool, not, ◌||◌, if◌then◌else◌, List, length, nat_eq, nat_lt, count_by, find, Option, Some, None, Result, Err, MatchOption, IfOk, IfErr, OnOk, OnErr}
use Rattle.std.specs.Option.{option_or, option_map}
use Rattle.plan_rules.specs.declared.node.Node.{Node}
use Rattle.plan_shape.specs.declared.fault.BuildFault.{BuildFault}
use Rattle.plan_shape.specs.declared.fault.BuildFault.TheVariants.{TooManyChildren, UsedChild, TooManyNodes, TooDeep, NoMemory}
use Rattle.plan_shape.specs.declared.limits.TheConstants.{MOST_PLAN_NODES, MOST_DEPTH}
use Rattle.plan_rules.specs.Children.{named_by}
use Rattle.plan_shape.specs.Children.{part_count}
use Rattle.plan_shape.specs.Parents.{is_free}
use Rattle.plan_shape.specs.Depths.{depth_over, depth_of}
use Rattle.plan_shape.specs.Conditions.{has_lawful_count}
use Rattle.plan_shape.specs.Added.{number_of, with_node}

-- the fault, where the test holds
abbrev pub fault_if : Bool → BuildFault → Option BuildFault
fault_if test fault = if test then Some fault else None

-- a child that can't be taken: it isn't free, or is named twice
abbrev pub is_used : List Node → List ℕ → ℕ → Bool
is_used nodes named child = not (is_free nodes child) || nat_lt 1 (count_by (nat_eq child) named)

-- the first of the named children that can't be taken
abbrev pub used_child : List Node → List ℕ → Option ℕ
used_child nodes named = find (is_used nodes named) named

-- why no node with these children and so many parts can be added: the first cause that holds. Parts
-- are leaves beside a child, so they make no path longer.
abbrev pub refusal : List Node → List ℕ → ℕ → Option BuildFault
refusal nodes named parts =
    option_or (option_map UsedChild (used_child nodes named))
    (option_or (fault_if (nat_lt MOST_PLAN_NODES (length nodes + parts + 1)) TooManyNodes)
    (fault_if (nat_lt MOST_DEPTH (depth_over (depth_of nodes) named)) TooDeep))

-- why the node can't be added
abbrev pub fault_of : List Node → Node → Option BuildFault
fault_of nodes node =
    option_or (fault_if (not (has_lawful_count node)) TooManyChildren)
    (refusal nodes (named_by node) (part_count node))

-- a call answers the fault that holds; where there is none, it succeeds or finds no memory
abbrev pub Answers : {T : Type 0} → Option BuildFault → Result T BuildFault → Type 0
Answers fault result = MatchOption fault (IfErr result (λ f. f ≡ NoMemory)) (λ f. result ≡ Err f)

-- a call adds the node and answers its number, or is refused and changes nothing
pub record Adds (old new : List Node) (node : Node) (result : Result ℕ BuildFault) : Type 0 where
  pub answer : Answers (fault_of old node) result
  pub number : IfOk result (λ n. n ≡ number_of old node)
  pub added : OnOk result (new ≡ with_node old node)
  pub unchanged : OnErr result (new ≡ old)
