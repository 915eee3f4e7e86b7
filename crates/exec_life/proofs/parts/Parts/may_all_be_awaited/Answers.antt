use Rattle.std.proofs.Common.{◌≡◌, ℕ, ◌+◌, ◌<◌, Bool, true, false, ◌&&◌, List, length, get_or, drop, sym, ap, ◌∙◌}
use Rattle.std.specs.List.{list_all}
use Rattle.std.proofs.lemmas.List.{at_drop_all, at_drop_more}
use Rattle.life_rules.specs.LifeSteps.{may_be_awaited}
use Rattle.life_rules.specs.States.{name_at}
use Rattle.exec_life.specs.Parts.{shown}
use Rattle.exec_life.proofs.parts.Parts.may_all_be_awaited.Goals as goal

-- r says whether number i passes
all-rest : (test : ℕ → Bool) (ns : List ℕ) (i : ℕ) (r : Bool) → i < length ns →
    r ≡ test (get_or ns i 0) →
    list_all test (drop i ns) ≡ (r && list_all test (drop (i + 1) ns))
all-rest test ns i r within passes =
    at_drop_more (list_all test) ns i 0 within
    ∙ ap (λ t. t && list_all test (drop (i + 1) ns)) (sym passes)

pub loop-child-preserved : goal.loop-child-preserved
loop-child-preserved c =
    let s = shown c.args.self.now in
    c.loop-child.invariant
    ∙ all-rest (may_be_awaited s (name_at s c.args.place)) c.args.children.now c.loop-child.child-index true
    c.loop-child-test.true c.if-not-may_be_awaited.ensures

pub returns-then-not-may_be_awaited : goal.returns-then-not-may_be_awaited
returns-then-not-may_be_awaited c =
    let s = shown c.args.self.now in
    sym (c.loop-child.invariant
    ∙ all-rest (may_be_awaited s (name_at s c.args.place)) c.args.children.now c.loop-child.child-index false
    c.loop-child-test.true c.if-not-may_be_awaited.ensures)

pub returns : goal.returns
returns c =
    let s = shown c.args.self.now in
    sym (c.loop-child.invariant
    ∙ at_drop_all (list_all (may_be_awaited s (name_at s c.args.place))) c.args.children.now
    c.loop-child.child-index c.loop-child-test.false)
