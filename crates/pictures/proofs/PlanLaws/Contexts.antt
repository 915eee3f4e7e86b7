-- What each step of a walk gives.
use Rattle.std.proofs.Common.{◌≡◌, ◌⊎◌, ℕ, zero, suc, ◌≤◌, List, length, Option, Some, Result, Ok, Err, refl, ap, ◌∙◌, inl, inr, arith}
use Rattle.std.specs.Prelude.{slice_get, OnOk}
use Rattle.std.specs.Option.{option_map_or}
use Rattle.std.proofs.lemmas.Option.{slice_get_past}
use Rattle.plan_rules.specs.declared.node.Node.{Node}
use Rattle.plan_kinds.specs.Runs.{run_by, bodies_of}
use Rattle.pictures.specs.declared.plans.home.Home.{Home}
use Rattle.pictures.specs.Plans.Homes.{home_below, home_behind}
use Rattle.pictures.specs.Plans.Ends.{Ends, end_case, end_of, end_of_all, end_of_children}

-- no step down is taken
pub end_of-here : (nodes : List Node) (steps n : ℕ) (start : Home) → (steps ≡ 0) ⊎ (length nodes ≤ n) → end_of nodes steps n start ≡ start
unfolding end_of
end_of-here nodes zero n start why = refl
end_of-here nodes (suc steps) n start (inl none) = absurd (omega arith)
end_of-here nodes (suc steps) n start (inr past) =
    ap (λ (o : Option Node). option_map_or (end_case (end_of nodes steps) start) o start) (slice_get_past nodes n past)

-- one is
pub end_of-node : (nodes : List Node) (steps below n : ℕ) (start : Home) (node : Node) → steps ≡ suc below → slice_get nodes n ≡ Some node → end_of nodes steps n start ≡ end_case (end_of nodes below) start node
unfolding end_of
end_of-node nodes zero below n start node one at = absurd (omega arith)
end_of-node nodes (suc steps) below n start node one at =
    let same : steps ≡ below = omega arith in
    ap (λ (o : Option Node). option_map_or (end_case (end_of nodes steps) start) o start) at
    ∙ ap (λ s. end_case (end_of nodes s) start node) same

-- where a node completes, put together as the code does
pub end_of-parts : (below : Ends) (start entering own all result : Home) (node : Node) (children bodies : List ℕ) → entering ≡ home_below node start → children ≡ run_by node → bodies ≡ bodies_of node → own ≡ end_of_children below entering children → all ≡ end_of_all below own own bodies → result ≡ home_behind node all → result ≡ end_case below start node
end_of-parts below start entering own all result node children bodies enters runs behind own_is all_is is =
    is ∙ ap (home_behind node) (all_is ∙ ap (end_of_all below own own) behind
    ∙ ap (λ h. end_of_all below h h (bodies_of node)) (own_is ∙ ap (λ h. end_of_children below h children) enters ∙ ap (end_of_children below (home_below node start)) runs))

-- what follows where a call succeeded
pub on_ok : {T E A B : Type 0} (r : Result T E) → (A → B) → OnOk r A → OnOk r B
on_ok (Ok x) follows is = follows is
on_ok (Err e) follows is = tt
