-- The parts of a list are held, one more each time.
use Rattle.std.specs.Prelude.{slice_get}
use Rattle.std.specs.List.{flat_map}
use Rattle.std.proofs.Common.{◌≡◌, inl, inr, ℕ, ◌+◌, ◌<◌, List, [], ◌∷◌, ◌++◌, Some, append_assoc, drop, get_or, length, map, nat_lt, ap, sym, subst, ◌∙◌, arith}
use Rattle.std.proofs.lemmas.List.{at_drop_more}
use Rattle.std.proofs.lemmas.Bool.{cases_Bool, ltb-false, ltb-true}
use Rattle.plan_rules.specs.declared.node.Node.{Node}
use Rattle.plan_writer.specs.Held.{IsHeldNode}

-- the first nodes are
abbrev pub FirstHeld : List Node → ℕ → Type 0
FirstHeld nodes count = (n : ℕ) (node : Node) → slice_get nodes n ≡ Some node → n < count → IsHeldNode node

same_node : (a b : Node) → Some a ≡ Some b → a ≡ b
same_node a b e = cc

pub one_held : (nodes : List Node) (count : ℕ) (node : Node) → slice_get nodes count ≡ Some node → IsHeldNode node
    → FirstHeld nodes count → FirstHeld nodes (count + 1)
one_held nodes count node at held first n other is less =
    elim (cases_Bool (nat_lt n count)) [
      | inl e ↦ first n other is (ltb-true n count e)
      | inr e ↦
          let past = ltb-false n count e in
          let here : n ≡ count = omega (arith, past, less) in
          subst IsHeldNode (same_node node other (sym at ∙ ap (slice_get nodes) (sym here) ∙ is)) held
    ]

-- what was added for one element more, and then what is left
pub flat_next : {A B : Type 0} (f : A → List B) (values : List A) (index : ℕ) (value : A) (start words new : List B)
    → index < length values → value ≡ get_or values index value → new ≡ words ++ f value
    → words ++ flat_map f (drop index values) ≡ start → new ++ flat_map f (drop (index + 1) values) ≡ start
flat_next {A} {B} f values index value start words new within is added so_far =
    let rest = flat_map f (drop (index + 1) values) in
    ap (λ (ws : List B). ws ++ rest) added
    ∙ append_assoc words (f value) rest
    ∙ ap (λ (x : A). words ++ (f x ++ rest)) is
    ∙ ap (λ (ws : List B). words ++ ws) (sym (at_drop_more (flat_map f) values index value within))
    ∙ so_far

pub map_next : {A B : Type 0} (f : A → B) (values : List A) (index : ℕ) (value : A) (start words new : List B)
    → index < length values → value ≡ get_or values index value → new ≡ words ++ f value ∷ []
    → words ++ map f (drop index values) ≡ start → new ++ map f (drop (index + 1) values) ≡ start
map_next {A} {B} f values index value start words new within is added so_far =
    let rest = map f (drop (index + 1) values) in
    ap (λ (ws : List B). ws ++ rest) added
    ∙ append_assoc words (f value ∷ []) rest
    ∙ ap (λ (x : A). words ++ f x ∷ rest) is
    ∙ ap (λ (ws : List B). words ++ ws) (sym (at_drop_more (map f) values index value within))
    ∙ so_far
