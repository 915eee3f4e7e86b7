-- The kinds of the plans that add one match, and they are small.
use Rattle.std.proofs.Common.{◌≡◌, ℕ, zero, suc, ◌<◌, refl, sym, ◌∙◌, subst, arith}
use Rattle.std.specs.Prelude.{pos, IsTrue}
use Rattle.std.proofs.lemmas.Bool.{false≢true}
use Rattle.std.proofs.lemmas.Option.{same_Some, slice_get_within}
use Rattle.exec_job.specs.declared.job.Job.TheVariants.{Add}
use Rattle.exec_value.specs.declared.kinds.Kind.TheVariants.{Int}
use Rattle.node_tree.specs.declared.context.Context.TheVariants.{Pool}
use Rattle.plan_kinds.specs.Gives.{int_alone}
use Rattle.plan_kinds.specs.Reached.{KindsMatch, IsFirstMismatch}
use Rattle.plan_kinds.specs.Runnable.{IsRunnable}
use Rattle.plan_kinds.specs.Signatures.{sig_of, kinds_match}
use Rattle.plan_kinds.specs.Small.{IsSmall, IsSmallShape}
use Rattle.plan_rules.specs.declared.node.Node.TheVariants.{Input, Then, StartsOn}
use Rattle.plan_shape.specs.Blueprint.{Blueprint}
use Rattle.by_example.specs.Adder.{adder, pool_adder}
use Rattle.by_example.specs.Answers.{IsOfInts}
use Rattle.by_example.proofs.AddingNodes.{IsNode, AreNodes, all-match, all-small}

-- the two nodes of the one plan
adder-nodes : AreNodes adder.nodes
adder-nodes zero node at = subst (IsNode 0) (same_Some Input node at) IsNode.is_input
adder-nodes (suc zero) node at = subst (IsNode 1) (same_Some (Then 0 (Add (pos 1))) node at) IsNode.is_then
adder-nodes (suc (suc n)) node at =
    let within = slice_get_within adder.nodes (suc (suc n)) node at in absurd (omega (arith, within))

adder-matching : (n : ℕ) → n < 2 → IsTrue (kinds_match adder.nodes n int_alone)
unfolding sig_of
adder-matching zero less = refl
adder-matching (suc zero) less = refl
adder-matching (suc (suc n)) less = absurd (omega (arith, less))

adder-values : (n : ℕ) → n < 2 → IsSmallShape (sig_of adder.nodes n int_alone).value
unfolding sig_of
adder-values zero less = tt
adder-values (suc zero) less = tt
adder-values (suc (suc n)) less = absurd (omega (arith, less))

pub adder-matches : KindsMatch adder.nodes Int
adder-matches = all-match adder.nodes adder-nodes adder-matching

-- so no check finds a node whose kinds don't match
pub no-mismatch : (plan : Blueprint) (n : ℕ) → plan ≡ adder → IsFirstMismatch plan.nodes plan.settings.input n → ⊥
no-mismatch plan n is first =
    let here = (subst (λ (p : Blueprint). IsFirstMismatch p.nodes p.settings.input n) is first).here in
    false≢true (sym here.2 ∙ adder-matches n here.0 here.1)

pub adder-small : IsSmall adder
adder-small = all-small adder refl adder-nodes adder-values

-- its operations run so
pub adder-of-ints : (plan steps : Blueprint) → plan ≡ adder → steps ≡ adder → IsRunnable steps → IsOfInts plan
adder-of-ints plan steps is same runs =
    subst (λ (p : Blueprint). IsOfInts p) (sym is) (record { runs = subst (λ (p : Blueprint). IsRunnable p) same runs; small = adder-small })

-- the three nodes of the other
pool-nodes : AreNodes pool_adder.nodes
pool-nodes zero node at = subst (IsNode 0) (same_Some Input node at) IsNode.is_input
pool-nodes (suc zero) node at = subst (IsNode 1) (same_Some (Then 0 (Add (pos 1))) node at) IsNode.is_then
pool-nodes (suc (suc zero)) node at = subst (IsNode 2) (same_Some (StartsOn Pool 1) node at) IsNode.is_start
pool-nodes (suc (suc (suc n))) node at =
    let within = slice_get_within pool_adder.nodes (suc (suc (suc n))) node at in absurd (omega (arith, within))

pool-matching : (n : ℕ) → n < 3 → IsTrue (kinds_match pool_adder.nodes n int_alone)
unfolding sig_of
pool-matching zero less = refl
pool-matching (suc zero) less = refl
pool-matching (suc (suc zero)) less = refl
pool-matching (suc (suc (suc n))) less = absurd (omega (arith, less))

pool-values : (n : ℕ) → n < 3 → IsSmallShape (sig_of pool_adder.nodes n int_alone).value
unfolding sig_of
pool-values zero less = tt
pool-values (suc zero) less = tt
pool-values (suc (suc zero)) less = tt
pool-values (suc (suc (suc n))) less = absurd (omega (arith, less))

pub pool-matches : KindsMatch pool_adder.nodes Int
pool-matches = all-match pool_adder.nodes pool-nodes pool-matching

pub pool-small : IsSmall pool_adder
pool-small = all-small pool_adder refl pool-nodes pool-values
