use Rattle.std.proofs.Common.{[], ◌∷◌, Ok, Err, refl, sym, ◌∙◌}
use Rattle.count_scope.proofs.Trying.{goes-first, goes-on, goes-end, third-ends}
use Rattle.count_scope.proofs.seals.seal.Goals as goal

pub returns-in_default-clause-sealed : goal.returns-in_default-clause-sealed
returns-in_default-clause-sealed g c =
    let first = c.args.first in
    let hand = c.args.hand.now in
    goes-end first hand.me first (Ok tt) [] hand c.seal_step.new.hand
    (goes-first first hand.me c.requires.seals c.requires.fresh) c.in_default.ensures.sealed tt

pub returns-then-is_settled-clause-sealed : goal.returns-then-is_settled-clause-sealed
returns-then-is_settled-clause-sealed g c =
    let first = c.args.first in
    let hand = c.args.hand.now in
    goes-end first hand.me first (Err c.in-Err.second) [] hand c.seal_step.new.hand
    (goes-first first hand.me c.requires.seals c.requires.fresh) c.in-Err.ensures.sealed
    (sym c.is_settled.ensures ∙ c.if-is_settled.true)

pub returns-in_default-seal_step-clause-sealed : goal.returns-in_default-seal_step-clause-sealed
returns-in_default-seal_step-clause-sealed g c =
    let first = c.args.first in
    let hand = c.args.hand.now in
    let second = c.in-Err.second in
    let middle = c.seal_step.new.hand in
    let on = goes-on first hand.me first second [] hand middle (goes-first first hand.me c.requires.seals c.requires.fresh)
    c.in-Err.ensures.sealed (sym c.is_settled.ensures ∙ c.if-is_settled.false) in
    goes-end first hand.me second (Ok tt) (on.0 ∷ []) middle c.seal_step-2.new.hand on.1 c.in_default-seal_step.ensures.sealed tt

pub returns-then-is_settled-2-clause-sealed : goal.returns-then-is_settled-2-clause-sealed
returns-then-is_settled-2-clause-sealed g c =
    let first = c.args.first in
    let hand = c.args.hand.now in
    let second = c.in-Err.second in
    let middle = c.seal_step.new.hand in
    let on = goes-on first hand.me first second [] hand middle (goes-first first hand.me c.requires.seals c.requires.fresh)
    c.in-Err.ensures.sealed (sym c.is_settled.ensures ∙ c.if-is_settled.false) in
    goes-end first hand.me second (Err c.in-Err-seal_step.third) (on.0 ∷ []) middle c.seal_step-2.new.hand on.1
    c.in-Err-seal_step.ensures.sealed (sym c.is_settled-2.ensures ∙ c.if-is_settled-2.true)

pub returns-clause-sealed : goal.returns-clause-sealed
returns-clause-sealed g c =
    let first = c.args.first in
    let hand = c.args.hand.now in
    let second = c.in-Err.second in
    let third = c.in-Err-seal_step.third in
    let middle = c.seal_step.new.hand in
    let later = c.seal_step-2.new.hand in
    let new = c.seal_step-3.new.hand in
    let on = goes-on first hand.me first second [] hand middle (goes-first first hand.me c.requires.seals c.requires.fresh)
    c.in-Err.ensures.sealed (sym c.is_settled.ensures ∙ c.if-is_settled.false) in
    let last = goes-on first hand.me second third (on.0 ∷ []) middle later on.1
    c.in-Err-seal_step.ensures.sealed (sym c.is_settled-2.ensures ∙ c.if-is_settled-2.false) in
    let words = last.0 ∷ on.0 ∷ [] in
    goes-end first hand.me third c.seal_step-3.result words later new last.1 c.seal_step-3.ensures.sealed
    (third-ends first hand.me third c.seal_step-3.result words later new last.1 refl c.seal_step-3.ensures.sealed)
