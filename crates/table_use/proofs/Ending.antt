-- A root that has its child's completion keeps it.
use Rattle.std.proofs.Common.{◌≡◌, inl, inr, ℕ, true, arith, refl, sym, ap, ◌∙◌, subst}
use Rattle.std.specs.Prelude.{Option, Some, None}
use Rattle.life_rules.specs.declared.event.Name.{Name}
use Rattle.node_tree.specs.Tree.{is_child}
use Rattle.life_rules.specs.Views.{beside}
use Rattle.life_kept.proofs.Trees.{child-parent}
use Rattle.table_steps.specs.declared.report.Report.TheVariants.{Last}
use Rattle.table_steps.specs.Views.{Board}
use Rattle.table_steps.specs.Seats.{Seated}
use Rattle.table_steps.specs.Reports.{CanReport, IsReportedAs}
use Rattle.table_steps.specs.Rests.{CanRest}
use Rattle.table_steps.specs.Swaps.{HasHome}
use Rattle.op_slot.specs.Puts.{CanPut, IsPut, IsTakenOut}
use Rattle.op_slot.specs.Tends.{put_at, IsCalm, HasPlaces, Tends}
use Rattle.op_slot.proofs.Tending.{swapped-calm, swapped-old, swapped-own, swapped-kid, last-calm, last-tends}
use Rattle.op_slot.proofs.Leaving.{tends-home, tends-kid, tends-puts, tends-rests, owes-reports}
use Rattle.table_use.specs.declared.cargo.Entry.{Entry}
use Rattle.table_use.specs.declared.cargo.Env.{Env}
use Rattle.table_use.specs.declared.cargo.Item.{Item}
use Rattle.table_use.specs.declared.cargo.Item.TheVariants.{Going, Kept, Done, Failed}
use Rattle.table_use.specs.Starts.{answer_of, done_at, value_of, is_done, least_at, least_of, Ends, FitsAt}
use Rattle.table_use.specs.Uses.{use_tree, IsRoot, IsEnv, HasEnded, HasNoted, HoldsLast}
use Rattle.table_use.specs.contracts.cargo.ItemCargo.TheImpl.{ghosts}
use Rattle.table_use.proofs.Nodes.{node-places, kid-above, kid-of, use-root-kid}

some-same : (a b : Item) → Some a ≡ Some b → a ≡ b
some-same a b e = cc

-- an item that is no completion asks for what its node asks for
own-least : (item : Item) (node : ℕ) → ¬ Ends item → FitsAt item node → least_of item ≡ least_at node
own-least (Going env) node on fit = ap least_at fit
own-least (Kept env value) node on fit = ap least_at fit.0
own-least (Done env value) node on fit = absurd (on tt)
own-least (Failed env) node on fit = absurd (on tt)

-- the child of a root ended so, and the hand owes its report
pub record OwesLast (board : Board ℕ) (x : Name) (n : ℕ) (item : Item) (m : Seated Item Entry) : Type 0 where
  pub is : IsRoot board x
  pub child : is_child board.frame.tree x.node n ≡ true
  pub name : Name
  pub name_is : name ≡ beside x n
  pub done : HasEnded (beside x n) item m
  pub calm : IsCalm m

-- the last report gives the root, with what the child ended with
module _ {board : Board ℕ} {x : Name} {n : ℕ} {item : Item} {m : Seated Item Entry} (owes : OwesLast board x n item m) where
  open owes use {is, child, name as y, name_is as name, done, calm}

  pub last-reports : CanReport board.frame.tree m.0 y
  last-reports =
      subst (λ (z : Name). CanReport board.frame.tree m.0 z) (sym name)
      (owes-reports board.frame.tree (beside x n) x.node done.entry m (child-parent board.frame.tree x.node n child) done.owes calm)

  module _ (m1 : Seated Item Entry) (did : IsReportedAs ghosts board.frame y Last m m1) where
    at-child : IsReportedAs ghosts board.frame (beside x n) Last m m1
    at-child = subst (λ z. IsReportedAs ghosts board.frame z Last m m1) name did

    pub last-holds : (env : Env) → IsEnv board.frame x env → HasNoted x env m → HoldsLast board.frame x env n item m1
    last-holds env at noted =
        let f = board.frame in
        let told = at-child.4 in
        let above = kid-above board x is.is_node n child in
        let asks : least_at x.node ≡ 1 = ap least_at is.three in
        subst (λ z. HoldsLast f z env n item m1) above
        (record {
          is = subst (λ z. IsEnv f z env) (sym above) at;
          held = _;
          start = told.noted _ (subst (λ z. HasNoted z env m) (sym above) noted);
          named =
              let own = own-least told.item _ told.goes_on told.fit in
              let node = ap (λ (z : Name). least_at z.node) above in
              let bound = told.bound in omega (arith, asks, own, node, bound);
          own = told.item;
          content = told.content;
          tends = last-tends ghosts f _ m m1 (beside x n) _ _ _ _ told
              (subst (λ z. HasPlaces f z) (sym above) (node-places board x is.is_node));
          child = told.keeps done.entry done.owes ∙ ap (λ (i : Item). Some i) done.item_is;
        })

    pub last-quiet : IsCalm m1
    last-quiet = last-calm ghosts board.frame _ m m1 (beside x n) _ _ _ _ at-child.4 calm

-- a root that its leaf was reported to
pub record HasLeaf (board : Board ℕ) (x : Name) (env : Env) (m : Seated Item Entry) : Type 0 where
  pub is : IsRoot board x
  pub last : HoldsLast board.frame x env 0 (done_at env 0) m
  pub leaf : Name
  pub leaf_is : leaf ≡ beside x 0

-- the homes of both children and the root's own are emptied, and the value is kept
module _ {board : Board ℕ} {x : Name} {env : Env} {m : Seated Item Entry} (has : HasLeaf board x env m) where
  open has use {is, last, leaf, leaf_is}

  first-child : is_child board.frame.tree x.node 0 ≡ true
  first-child = kid-of board x is.is_node 3 0 is.three refl

  other-child : is_child board.frame.tree x.node 2 ≡ true
  other-child = kid-of board x is.is_node 3 2 is.three refl

  pub leaf-home : HasHome board.frame.layout m leaf
  leaf-home =
      subst (λ (z : Name). HasHome board.frame.layout m z) (sym leaf_is)
      (tends-kid board.frame x m last.held (Some last.own) last.content last.tends 0 first-child)

  module _ {m1 : Seated Item Entry} {p : Option Item} (took : IsTakenOut board.frame leaf p m m1) where
    leaf-out : IsTakenOut board.frame (beside x 0) p m m1
    leaf-out = subst (λ z. IsTakenOut board.frame z p m m1) leaf_is took

    pub leaf-item : p ≡ Some (done_at env 0)
    leaf-item = swapped-old board.frame (beside x 0) None p m m1 leaf-out (last.content 0) (last.tends.kids 0 first-child) ∙ last.child

    leaf-done : (item : Item) → p ≡ Some item → item ≡ done_at env 0
    leaf-done item some = some-same item (done_at env 0) (sym some ∙ leaf-item)

    pub leaf-is-done : (item : Item) → p ≡ Some item → is_done item ≡ true
    leaf-is-done item some = ap is_done (leaf-done item some)

    pub leaf-value : (item : Item) → p ≡ Some item → value_of item ≡ answer_of env
    leaf-value item some = ap value_of (leaf-done item some)

    leaf-tends : Tends board.frame x last.held (Some last.own) (put_at 0 None last.content) m1
    leaf-tends =
        swapped-kid board.frame x 0 None p m m1 last.held (Some last.own) last.content (node-places board x is.is_node) first-child leaf-out last.tends

    module _ {branch : Name} (branch_is : branch ≡ beside x 2) where
      pub branch-home : HasHome board.frame.layout m1 branch
      branch-home =
          subst (λ (z : Name). HasHome board.frame.layout m1 z) (sym branch_is)
          (tends-kid board.frame x m1 last.held (Some last.own) (put_at 0 None last.content) leaf-tends 2 other-child)

      module _ {m2 : Seated Item Entry} {q : Option Item} (took_q : IsTakenOut board.frame branch q m1 m2) where
        abbrev emptied : ℕ → Option Item
        emptied = put_at 2 None (put_at 0 None last.content)

        branch-tends : Tends board.frame x last.held (Some last.own) emptied m2
        branch-tends =
            swapped-kid board.frame x 2 None q m1 m2 last.held (Some last.own) (put_at 0 None last.content) (node-places board x is.is_node)
            other-child (subst (λ z. IsTakenOut board.frame z q m1 m2) branch_is took_q) leaf-tends

        pub own-home : HasHome board.frame.layout m2 x
        own-home = tends-home board.frame x m2 last.held (Some last.own) emptied branch-tends

        module _ {m3 : Seated Item Entry} {o : Option Item} (took_o : IsTakenOut board.frame x o m2 m3) where
          own-tends : Tends board.frame x last.held None emptied m3
          own-tends =
              swapped-own board.frame x None o m2 m3 took_o last.held (Some last.own) emptied (node-places board x is.is_node) branch-tends

          pub keeps-puts : (value : ℕ) → value ≡ answer_of env → CanPut ghosts board.frame m3 x (Kept env value)
          keeps-puts value right =
              tends-puts board.frame x m3 last.held None emptied own-tends ghosts (Kept env value) refl (sym last.start) (last.is.node, right)

          module _ {m4 : Seated Item Entry} {value : ℕ} (put : IsPut board.frame x (Kept env value) m3 m4) (calm : IsCalm m) where
            pub keeps-calm : IsCalm m4
            keeps-calm =
                swapped-calm board.frame x (Some (Kept env value)) None m3 m4 put
                (swapped-calm board.frame x None o m2 m3 took_o
                (swapped-calm board.frame branch None q m1 m2 took_q (swapped-calm board.frame leaf None p m m1 took calm)))

            none-left : (n : ℕ) → is_child board.frame.tree x.node n ≡ true → emptied n ≡ None
            none-left n child =
                let in_use : is_child use_tree 3 n ≡ true = ap (λ k. is_child use_tree k n) (sym is.three) ∙ sym (ap (λ t. is_child t x.node n) is.is_node.tree) ∙ child in
                elim (use-root-kid n in_use) [ inl zero_is ↦ ap emptied zero_is | inr two_is ↦ ap emptied two_is ]

            pub keeps-rests : value ≡ answer_of env → CanRest ghosts board.frame m4 x
            keeps-rests right =
                let asks : least_at env.node ≡ 1 = ap least_at (last.is.node ∙ is.three) in
                let named = last.named in
                tends-rests ghosts board.frame x m4 last.held emptied keeps-calm none-left (Kept env value)
                (swapped-own board.frame x (Some (Kept env value)) None m3 m4 put last.held None emptied (node-places board x is.is_node) own-tends)
                (record { start = sym last.start; fit = (last.is.node, right); goes_on = λ e. e }) (omega (arith, asks, named)) tt
