use Rattle.std.proofs.Common.{◌≡◌, ◌-◌, ℕ, List, Vec, Global, IfOk, false, nat_eq, ap, sym, ◌∙◌, subst, arith, eq-eqb}
use Rattle.std.proofs.lemmas.Bool.{ne_eqb}
use Rattle.std.proofs.lemmas.Option.{slice_get_past}
use Rattle.plan_places.specs.Paths.{at_step}
use Rattle.plan_places.specs.Ways.{way}
use Rattle.plan_places.proofs.Stepped.{way-here, way-on, way-out, way-stuck, way-zero}
use Rattle.plan_places.proofs.way.+way.Goals as goal

pub returns-then-levels-eq0 : goal.returns-then-levels-eq0
returns-then-levels-eq0 t c =
    way-zero c.args.plan.now.nodes c.args.levels c.args.at c.args.path.items c.args.number c.if-levels-eq0.true

pub returns-then-at-number : goal.returns-then-at-number
returns-then-at-number t c =
    way-here c.args.plan.now.nodes c.args.levels c.args.at c.args.path.items c.args.number (omega arith)
    (eq-eqb c.args.at c.args.number c.if-at-number.true)

pub returns-then-at-size : goal.returns-then-at-size
returns-then-at-size t c =
    let other : nat_eq c.args.at c.args.number ≡ false = ne_eqb c.args.at c.args.number c.if-at-number.false in
    way-out c.args.plan.now.nodes c.args.levels c.args.at c.args.path.items c.args.number (omega arith) other
    (slice_get_past c.args.plan.now.nodes c.args.at (omega (arith, c.size.ensures.size, c.if-at-size.true)))

pub returns-in-None : goal.returns-in-None
returns-in-None t c =
    let other : nat_eq c.args.at c.args.number ≡ false = ne_eqb c.args.at c.args.number c.if-at-number.false in
    way-stuck c.args.plan.now.nodes c.args.levels c.args.at c.args.path.items c.args.number (omega arith) other
    c.node.result.now c.node.ensures (sym c.in-None.is ∙ c.step_to.ensures)

pub returns-in_ok-next-in-Some : goal.returns-in_ok-next-in-Some
returns-in_ok-next-in-Some t c =
    let nodes = c.args.plan.now.nodes in
    let step = c.in-Some.step in
    let n = c.args.number in
    let other : nat_eq c.args.at n ≡ false = ne_eqb c.args.at n c.if-at-number.false in
    let path : c.in_ok-next-in-Some.next.items ≡ at_step c.args.path.items step.key step.index =
    c.in_ok-next-in-Some.ensures ∙ ap (λ (p : List ℕ). at_step p step.key step.index) c.deref.ensures.value in
    let P : List ℕ → Type 0 = λ p. IfOk c.way.result (λ (text : Vec ℕ Global). text.items ≡ p) in
    subst P (ap (λ (p : List ℕ). way nodes (c.args.levels - 1) step.node p n) path
    ∙ way-on nodes c.args.levels c.args.at c.args.path.items n (omega arith) other c.node.result.now step c.node.ensures
    (sym c.in-Some.is ∙ c.step_to.ensures)) c.way.ensures
