use Rattle.std.proofs.Common.{◌<◌, Option, Some, IfOk, sym, ap, ◌∙◌, subst, arith}
use Rattle.serde_json.specs.View.{view}
use Rattle.plan_places.specs.Told.{IsSite}
use Rattle.plan_places.specs.Seeking.{Site}
use Rattle.plan_places.proofs.Searched.{first-below, first-here, first-unknown, first-zero}
use Rattle.plan_places.proofs.seeking.Search.+search.Goals as goal

pub first-returns-then-self-eq0 : goal.first-returns-then-self-eq0
first-returns-then-self-eq0 t c =
    let self = c.args.self in
    first-zero self.is_first self.levels self.sought c.args.path.now (view c.args.value.now) c.if-self-eq0.true

pub first-returns-then-branch : goal.first-returns-then-branch
first-returns-then-branch t c =
    let self = c.args.self in
    let some : 0 < self.levels = omega arith in
    ap (λ (site : Site). Some site) c.in_ok-spot.ensures
    ∙ first-here self.is_first self.levels self.sought c.args.path.now (view c.args.value.now) some
    (sym c.in_ok-is_it.ensures ∙ c.if-branch.true)

pub first-returns-in-Some : goal.first-returns-in-Some
first-returns-in-Some t c =
    let self = c.args.self in
    let some : 0 < self.levels = omega arith in
    let P : Option Site → Type 0 = λ o. IfOk c.in_parts.result (IsSite o) in
    subst P (first-below self c.under.result c.args.path.now (view c.args.value.now) c.in-Some.word some
    (sym c.in_ok-is_it.ensures ∙ c.if-branch.false) (sym c.node_word_at.ensures ∙ c.in-Some.is) c.under.ensures)
    c.in_parts.ensures

pub first-returns-in-None : goal.first-returns-in-None
first-returns-in-None t c =
    let self = c.args.self in
    let some : 0 < self.levels = omega arith in
    first-unknown self.is_first self.levels self.sought c.args.path.now (view c.args.value.now) some
    (sym c.in_ok-is_it.ensures ∙ c.if-branch.false) (sym c.node_word_at.ensures ∙ c.in-None.is)
