use Rattle.std.specs.List.{list_all}
use Rattle.std.proofs.Common.{◌≡◌, true, rules, tests}
use Rattle.std.proofs.lemmas.Iterator.{YieldsList-from_slice}
use Rattle.std.proofs.lemmas.Iterator.Search.{all_from_yields_List}
use Rattle.plan_kinds.specs.declared.sig.Sig.{Sig}
use Rattle.plan_kinds.specs.Shapes.{agrees}
use Rattle.sig_check.proofs.ShapeLemmas.{all-agree}
use Rattle.sig_check.proofs.shapes.all_agree.Goals as goal

pub returns-then-agrees : goal.returns-then-agrees
returns-then-agrees c =
    let joint = c.common-joint.result.now in
    let sigs = c.args.behind.now in
    let by_call : c.all.result ≡ list_all (λ (sig : Sig). agrees joint sig.value) sigs =
    all_from_yields_List (λ (sig : Sig). agrees joint sig.value) _ _ _ c.all.ensures.ran
    (YieldsList-from_slice sigs cc) (λ x b q k. search (rules, tests)) in
    let first : agrees joint c.args.front.now ≡ true = search rules in
    all-agree c.args.front.now joint sigs c.all.result c.common-joint.ensures first by_call
