use Rattle.std.proofs.Common.{refl, sym, subst}
use Rattle.std.specs.Prelude.{List, Option, IsSome}
use Rattle.spawn_future.specs.declared.future.Future.{Future}
use Rattle.spawn_future.specs.Slots.{IsFoundAt}
use Rattle.spawn_future.proofs.Slotted.{found-waits}
use Rattle.spawn_future.proofs.Spawned.{marked-keeps, marked-abandons, marked-are}
use Rattle.spawn_future.proofs.futures.Futures.abandon.Goals as goal

pub mark-requires-clause-within : goal.mark-requires-clause-within
mark-requires-clause-within c =
    let found = subst (λ (l : List (Option Future)). IsFoundAt c.args.owner l c.in-Some.found) (sym c.self.view_is) c.in-Some.ensures.found in
    found.within

pub mark-requires-clause-taken : goal.mark-requires-clause-taken
mark-requires-clause-taken c =
    let slots = c.self.inside.slots.items in
    let found = subst (λ (l : List (Option Future)). IsFoundAt c.args.owner l c.in-Some.found) (sym c.self.view_is) c.in-Some.ensures.found in
    let waits = found-waits c.args.owner slots c.in-Some.found found in
    subst (λ (o : Option Future). IsSome o) (sym waits.1.has) refl

pub invariant_of-self : goal.invariant_of-self
invariant_of-self c =
    let found = subst (λ (l : List (Option Future)). IsFoundAt c.args.owner l c.in-Some.found) (sym c.self.view_is) c.in-Some.ensures.found in
    marked-are c.args.owner c.self.inside.slots.items _ c.in-Some.found found c.mark.ensures c.self.inside.kept c.self.invariant

pub returns-in-Some-clause-abandoned : goal.returns-in-Some-clause-abandoned
returns-in-Some-clause-abandoned c =
    let found = subst (λ (l : List (Option Future)). IsFoundAt c.args.owner l c.in-Some.found) (sym c.self.view_is) c.in-Some.ensures.found in
    rw (← c.self.view_is)
    (marked-abandons c.args.owner c.self.inside.slots.items _ c.in-Some.found found c.mark.ensures)

pub returns-in-Some-clause-keeps : goal.returns-in-Some-clause-keeps
returns-in-Some-clause-keeps c =
    let found = subst (λ (l : List (Option Future)). IsFoundAt c.args.owner l c.in-Some.found) (sym c.self.view_is) c.in-Some.ensures.found in
    rw (← c.self.view_is)
    (marked-keeps c.args.owner c.self.inside.slots.items _ c.in-Some.found found c.mark.ensures)
