-- The way up from a node: a parent has a greater number, so enough steps come to the root.
use Rattle.std.proofs.Common.{◌≡◌, ℕ, zero, suc, ◌+◌, ◌≤◌, List, [], ◌∷◌, length, Some, None, refl, sym, ap, ◌∙◌, arith}
use Rattle.std.specs.Option.{option_map_or}
use Rattle.common_lemmas.proofs.Options.{known}
use Rattle.plan_rules.specs.declared.node.Node.{Node}
use Rattle.plan_shape.specs.Parents.{parent_of}
use Rattle.plan_shape.specs.Ancestors.{way_up, ancestors}
use Rattle.plan_shape.specs.Forest.{IsForest}
use Rattle.plan_shape.proofs.ForestLaws.{parent_later}

way_up-Some : (nodes : List Node) (steps n m : ℕ) → parent_of nodes n ≡ Some m →
    way_up nodes (suc steps) n ≡ m ∷ way_up nodes steps m
unfolding way_up
way_up-Some nodes steps n m e = ap (λ o. option_map_or (λ p. p ∷ way_up nodes steps p) o []) e

way_up-None : (nodes : List Node) (steps n : ℕ) → parent_of nodes n ≡ None → way_up nodes steps n ≡ []
unfolding way_up
way_up-None nodes zero n e = refl
way_up-None nodes (suc steps) n e = ap (λ o. option_map_or (λ p. p ∷ way_up nodes steps p) o []) e

-- enough steps make one way
way_up-enough : (nodes : List Node) → IsForest nodes → (s t n : ℕ) → length nodes ≤ n + s + 1 →
    length nodes ≤ n + t + 1 → way_up nodes s n ≡ way_up nodes t n
way_up-enough nodes forest zero t n a b =
    known (parent_of nodes n)
    (λ none. way_up-None nodes zero n none ∙ sym (way_up-None nodes t n none))
    (λ m some. let up = parent_later nodes n m forest some in absurd (omega (arith, a, up.0, up.1)))
way_up-enough nodes forest (suc s) zero n a b =
    known (parent_of nodes n)
    (λ none. way_up-None nodes (suc s) n none ∙ sym (way_up-None nodes zero n none))
    (λ m some. let up = parent_later nodes n m forest some in absurd (omega (arith, b, up.0, up.1)))
way_up-enough nodes forest (suc s) (suc t) n a b =
    known (parent_of nodes n)
    (λ none. way_up-None nodes (suc s) n none ∙ sym (way_up-None nodes (suc t) n none))
    (λ m some.
    let up = parent_later nodes n m forest some in
    way_up-Some nodes s n m some
    ∙ ap (λ ms. m ∷ ms) (way_up-enough nodes forest s t m (omega (arith, a, up.0)) (omega (arith, b, up.0)))
    ∙ sym (way_up-Some nodes t n m some))

-- a node's ancestors come from its parent's
pub ancestors-Some : (nodes : List Node) (n m : ℕ) → IsForest nodes → parent_of nodes n ≡ Some m →
    ancestors nodes n ≡ m ∷ ancestors nodes m
ancestors-Some nodes n m forest some =
    way_up-enough nodes forest (length nodes) (suc (length nodes)) n (omega arith) (omega arith)
    ∙ way_up-Some nodes (length nodes) n m some

pub ancestors-None : (nodes : List Node) (n : ℕ) → parent_of nodes n ≡ None → ancestors nodes n ≡ []
ancestors-None nodes n none = way_up-None nodes (length nodes) n none
