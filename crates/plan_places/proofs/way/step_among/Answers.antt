use Rattle.std.proofs.Common.{ℕ, ◌<◌, length, get_or, Option, IfSome, sym, ◌∙◌, subst}
use Rattle.std.proofs.lemmas.Option.{slice_get-get_or}
use Rattle.plan_places.proofs.Stepped.{among-none, among-some}
use Rattle.plan_places.proofs.way.step_among.Goals as goal

pub returns-in-Some : goal.returns-in-Some
returns-in-Some c =
    let children = c.args.children.now in
    let P : Option ℕ → Type 0 = λ o. IfSome o (λ i. i < length children) in
    let within : c.in-Some.index < length children = subst P c.in-Some.is c.place_among.ensures.within in
    among-some c.args.number c.args.key children c.in-Some.index (get_or children c.in-Some.index 0)
    (sym c.place_among.ensures.place ∙ c.in-Some.is) (slice_get-get_or children c.in-Some.index 0 within)

pub returns-in-None : goal.returns-in-None
returns-in-None c = among-none c.args.number c.args.key c.args.children.now (sym c.place_among.ensures.place ∙ c.in-None.is)
