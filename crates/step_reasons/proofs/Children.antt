-- The children of an await, one after another.
use Rattle.std.proofs.Common.{◌≡◌, ℕ, ◌+◌, ◌<◌, ◌≤◌, List, [], ◌∷◌, length, drop, get_or, Option, None, Some, sym, ap, ◌∙◌}
use Rattle.std.proofs.lemmas.List.{drop_more, drop_all}
use Rattle.life_rules.specs.declared.event.Place.{Place}
use Rattle.life_rules.specs.States.{State}
use Rattle.step_reasons.specs.declared.fact.Fact.{Fact}
use Rattle.step_reasons.specs.LifeReasons.{child_reason, children_reason}
use Rattle.step_reasons.proofs.Passing.{two-some, two-none}

-- the reason of the first that has one
pub child-found : (s : State) (p : Place) (nodes : List ℕ) (i n : ℕ) (found : Fact) → i < length nodes → n ≡ get_or nodes i 0 → child_reason s p n None ≡ Some found → children_reason s p (drop i nodes) ≡ Some found
child-found s p nodes i n found here is e =
    ap (children_reason s p) (drop_more nodes i 0 here)
    ∙ ap (λ m. child_reason s p m (children_reason s p (drop (i + 1) nodes))) (sym is)
    ∙ two-some _ _ _ _ _ found e

-- one that has none is passed
pub child-passed : (s : State) (p : Place) (nodes : List ℕ) (i n : ℕ) → i < length nodes → n ≡ get_or nodes i 0 → child_reason s p n None ≡ None → children_reason s p (drop i nodes) ≡ children_reason s p (drop (i + 1) nodes)
child-passed s p nodes i n here is e =
    ap (children_reason s p) (drop_more nodes i 0 here)
    ∙ ap (λ m. child_reason s p m (children_reason s p (drop (i + 1) nodes))) (sym is)
    ∙ two-none _ _ _ _ _ e

pub children-passed : (s : State) (p : Place) (nodes : List ℕ) (i : ℕ) → length nodes ≤ i → children_reason s p (drop i nodes) ≡ None
children-passed s p nodes i all = ap (children_reason s p) (drop_all i nodes all)
