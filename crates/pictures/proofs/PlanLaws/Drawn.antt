-- What each step of a drawing adds.
use Rattle.std.proofs.Common.{◌≡◌, ◌⊎◌, ℕ, zero, suc, ◌≤◌, List, [], ◌++◌, length, Option, Some, refl, sym, ap, ◌∙◌, inl, inr, arith}
use Rattle.std.specs.Prelude.{slice_get}
use Rattle.std.specs.Option.{option_map_or}
use Rattle.std.proofs.lemmas.Option.{slice_get_past}
use Rattle.plan_rules.specs.declared.node.Node.{Node}
use Rattle.plan_kinds.specs.declared.sig.Sig.{Sig}
use Rattle.plan_kinds.specs.Runs.{run_by, bodies_of}
use Rattle.pictures.specs.declared.plans.folds.Fold.{Fold}
use Rattle.pictures.specs.declared.plans.home.Home.{Home}
use Rattle.pictures.specs.Plans.Homes.{home_below}
use Rattle.pictures.specs.Plans.Ends.{end_of, end_of_children}
use Rattle.pictures.specs.Plans.Shapes.{folds_below, shape_case, shape_of}
use Rattle.pictures.specs.Plans.Drawing.{arrows, body_arrows, box_text, drawn_each, drawn_from, drawn_node}

-- no step down is taken
pub shape_of-here : (nodes : List Node) (steps n : ℕ) → (steps ≡ 0) ⊎ (length nodes ≤ n) → [] ≡ shape_of nodes steps n
unfolding shape_of
shape_of-here nodes zero n why = refl
shape_of-here nodes (suc steps) n (inl none) = absurd (omega arith)
shape_of-here nodes (suc steps) n (inr past) =
    sym (ap (λ (o : Option Node). option_map_or (shape_case (shape_of nodes steps)) o []) (slice_get_past nodes n past))

-- one is
pub shape_of-node : (nodes : List Node) (steps below n : ℕ) (node : Node) → steps ≡ suc below → slice_get nodes n ≡ Some node → shape_case (shape_of nodes below) node ≡ shape_of nodes steps n
unfolding shape_of
shape_of-node nodes zero below n node one at = absurd (omega arith)
shape_of-node nodes (suc steps) below n node one at =
    let same : below ≡ steps = omega arith in
    ap (λ s. shape_case (shape_of nodes s) node) same
    ∙ sym (ap (λ (o : Option Node). option_map_or (shape_case (shape_of nodes steps)) o []) at)

-- no step down is taken
pub drawn_from-here : (nodes : List Node) (sigs : List Sig) (steps n count : ℕ) (start : Home) → (steps ≡ 0) ⊎ (length nodes ≤ n) → [] ≡ drawn_from nodes sigs steps n count start
unfolding drawn_from
drawn_from-here nodes sigs zero n count start why = refl
drawn_from-here nodes sigs (suc steps) n count start (inl none) = absurd (omega arith)
drawn_from-here nodes sigs (suc steps) n count start (inr past) =
    sym (ap (λ (o : Option Node). option_map_or (drawn_node nodes sigs steps (drawn_from nodes sigs steps) n count start) o []) (slice_get_past nodes n past))

-- one is
pub drawn_from-node : (nodes : List Node) (sigs : List Sig) (steps below n count : ℕ) (start : Home) (node : Node) → steps ≡ suc below → slice_get nodes n ≡ Some node → drawn_node nodes sigs below (drawn_from nodes sigs below) n count start node ≡ drawn_from nodes sigs steps n count start
unfolding drawn_from
drawn_from-node nodes sigs zero below n count start node one at = absurd (omega arith)
drawn_from-node nodes sigs (suc steps) below n count start node one at =
    let same : below ≡ steps = omega arith in
    ap (λ s. drawn_node nodes sigs s (drawn_from nodes sigs s) n count start node) same
    ∙ sym (ap (λ (o : Option Node). option_map_or (drawn_node nodes sigs steps (drawn_from nodes sigs steps) n count start) o []) at)

-- what is drawn of a node, put together as the code does
module _ (nodes : List Node) (sigs : List Sig) (below n count : ℕ) (start : Home) (node : Node) where
  -- by its children and bodies, their folds, and where they are started
  abbrev together : List ℕ → List ℕ → List Fold → List Fold → Home → Home → Home → List ℕ
  together children bodies child_folds body_folds inner later end =
      box_text nodes sigs n node count start end
      ++ ((arrows n children child_folds ++ body_arrows n bodies body_folds)
      ++ (drawn_each (drawn_from nodes sigs below) inner children child_folds
      ++ drawn_each (drawn_from nodes sigs below) later bodies body_folds))

  pub drawn-parts : (children bodies : List ℕ) (child_folds body_folds : List Fold) (inner later end : Home) → children ≡ run_by node → bodies ≡ bodies_of node → child_folds ≡ folds_below nodes below children → body_folds ≡ folds_below nodes below bodies → inner ≡ home_below node start → later ≡ end_of_children (end_of nodes below) inner children → end ≡ end_of nodes (suc below) n start → together children bodies child_folds body_folds inner later end ≡ drawn_node nodes sigs below (drawn_from nodes sigs below) n count start node
  drawn-parts children bodies child_folds body_folds inner later end cs bs cf bf i l e =
      let cf' = cf ∙ ap (folds_below nodes below) cs in
      let bf' = bf ∙ ap (folds_below nodes below) bs in
      let l' = l ∙ ap (λ h. end_of_children (end_of nodes below) h children) i ∙ ap (end_of_children (end_of nodes below) (home_below node start)) cs in
      ap (together children bodies child_folds body_folds inner later) e
      ∙ ap (λ h. together children bodies child_folds body_folds inner h (end_of nodes (suc below) n start)) l'
      ∙ ap (λ h. together children bodies child_folds body_folds h (end_of_children (end_of nodes below) (home_below node start) (run_by node)) (end_of nodes (suc below) n start)) i
      ∙ ap (λ fs. together children bodies child_folds fs (home_below node start) (end_of_children (end_of nodes below) (home_below node start) (run_by node)) (end_of nodes (suc below) n start)) bf'
      ∙ ap (λ fs. together children bodies fs (folds_below nodes below (bodies_of node)) (home_below node start) (end_of_children (end_of nodes below) (home_below node start) (run_by node)) (end_of nodes (suc below) n start)) cf'
      ∙ ap (λ ns. together children ns (folds_below nodes below (run_by node)) (folds_below nodes below (bodies_of node)) (home_below node start) (end_of_children (end_of nodes below) (home_below node start) (run_by node)) (end_of nodes (suc below) n start)) bs
      ∙ ap (λ ns. together ns (bodies_of node) (folds_below nodes below (run_by node)) (folds_below nodes below (bodies_of node)) (home_below node start) (end_of_children (end_of nodes below) (home_below node start) (run_by node)) (end_of nodes (suc below) n start)) cs
