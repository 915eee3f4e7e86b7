use Rattle.std.proofs.Common.{◌≡◌, ◌≢◌, ◌≤◌, length, sym, ap, ◌∙◌, arith, rules}
use Rattle.std.specs.Prelude.{nat_le}
use Rattle.std.proofs.lemmas.Bool.{le-leb}
use Rattle.step_reasons.proofs.Passing.{passed, stopped, two-some, two-none}
use Rattle.step_reasons.proofs.Zeros.{none-from}
use Rattle.step_reasons.proofs.life_reasons.await_reason.Goals as goal

pub returns-in-Some : goal.returns-in-Some
returns-in-Some c =
    sym
    (passed _ _ _ (sym c.has_place.ensures ∙ c.if-not-has_place.false)
    ∙ two-some _ _ _ _ _ c.in-Some.fact (sym c.leave_reason.ensures ∙ c.in-Some.is))

pub returns-then-is_empty : goal.returns-then-is_empty
returns-then-is_empty c =
    let empty : length c.args.children.now ≡ 0 = search rules in
    sym
    (passed _ _ _ (sym c.has_place.ensures ∙ c.if-not-has_place.false)
    ∙ two-none _ _ _ _ _ (sym c.leave_reason.ensures ∙ none-from c.leave_reason.result c.in_default.not-Some)
    ∙ stopped _ _ _ (ap (nat_le 1) empty))

pub returns : goal.returns
returns c =
    let some : length c.args.children.now ≢ 0 = search rules in
    let least : 1 ≤ length c.args.children.now = omega (arith, some) in
    c.children_reason.ensures
    ∙ sym
    (passed _ _ _ (sym c.has_place.ensures ∙ c.if-not-has_place.false)
    ∙ two-none _ _ _ _ _ (sym c.leave_reason.ensures ∙ none-from c.leave_reason.result c.in_default.not-Some)
    ∙ passed _ _ _ (le-leb 1 (length c.args.children.now) least)
    ∙ passed _ _ _ (sym c.are_different.ensures ∙ c.if-not-are_different.false))
