use Rattle.std.proofs.Common.{◌≡◌, ℕ, true, false, List, Some, None, sym, ap, subst, ◌∙◌, arith}
use Rattle.std.specs.Prelude.{◌||◌}
use Rattle.std.specs.List.{list_any}
use Rattle.std.proofs.lemmas.Bool.{or_left}
use Rattle.plan_rules.specs.declared.node.Node.{Node}
use Rattle.plan_shape.specs.Ancestors.{ancestors}
use Rattle.plan_shape.specs.Parents.{parent_of}
use Rattle.plan_shape.specs.Finish.{bars_aheads, passes}
use Rattle.plan_shape.specs.Forest.{IsForest}
use Rattle.plan_shape.proofs.ForestLaws.{parent_later}
use Rattle.plan_shape.proofs.AncestorLemmas.{ancestors-Some, ancestors-None}
use Rattle.plan_builder.proofs.builder.PlanBuilder.+is_barred.Goals as goal

-- the node's own parent, and then those above it
barred_by : (nodes : List Node) (n m : ℕ) → IsForest nodes → parent_of nodes n ≡ Some m →
    list_any (passes bars_aheads nodes) (ancestors nodes n)
    ≡ (passes bars_aheads nodes m || list_any (passes bars_aheads nodes) (ancestors nodes m))
barred_by nodes n m forest some = ap (list_any (passes bars_aheads nodes)) (ancestors-Some nodes n m forest some)

pub is_barred-requires : goal.is_barred-requires
is_barred-requires t c =
    let nodes = c.args.self.now in
    let some : parent_of nodes c.args.node ≡ Some c.in-Some.parent = sym c.parent.ensures ∙ c.in-Some.is in
    let up = parent_later nodes c.args.node c.in-Some.parent (subst IsForest c.self.view_is c.self.invariant.forest) some in
    (omega (arith, up.0, up.1), tt)

pub returns-in-None : goal.returns-in-None
returns-in-None t c =
    let nodes = c.args.self.now in
    let none : parent_of nodes c.args.node ≡ None = sym c.parent.ensures ∙ c.in-None.is in
    sym (ap (list_any (passes bars_aheads nodes)) (ancestors-None nodes c.args.node none))

pub returns-then-bars_aheads : goal.returns-then-bars_aheads
returns-then-bars_aheads t c =
    let nodes = c.args.self.now in
    let some : parent_of nodes c.args.node ≡ Some c.in-Some.parent = sym c.parent.ensures ∙ c.in-Some.is in
    let forest : IsForest nodes = subst IsForest c.self.view_is c.self.invariant.forest in
    let bars : passes bars_aheads nodes c.in-Some.parent ≡ true =
    ap (λ ns. passes bars_aheads ns c.in-Some.parent) (sym (c.deref.ensures.value ∙ c.self.view_is))
    ∙ sym c.bars_aheads.ensures ∙ c.if-bars_aheads.true in
    c.if-bars_aheads.true
    ∙ sym (barred_by nodes c.args.node c.in-Some.parent forest some
    ∙ or_left (passes bars_aheads nodes c.in-Some.parent) (list_any (passes bars_aheads nodes) (ancestors nodes c.in-Some.parent)) bars)

pub returns-else-bars_aheads : goal.returns-else-bars_aheads
returns-else-bars_aheads t c =
    let nodes = c.args.self.now in
    let some : parent_of nodes c.args.node ≡ Some c.in-Some.parent = sym c.parent.ensures ∙ c.in-Some.is in
    let forest : IsForest nodes = subst IsForest c.self.view_is c.self.invariant.forest in
    let open_ : passes bars_aheads nodes c.in-Some.parent ≡ false =
    ap (λ ns. passes bars_aheads ns c.in-Some.parent) (sym (c.deref.ensures.value ∙ c.self.view_is))
    ∙ sym c.bars_aheads.ensures ∙ c.if-bars_aheads.false in
    c.is_barred.ensures
    ∙ sym (barred_by nodes c.args.node c.in-Some.parent forest some
    ∙ ap (λ b. b || list_any (passes bars_aheads nodes) (ancestors nodes c.in-Some.parent)) open_)
