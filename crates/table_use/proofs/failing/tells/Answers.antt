use Rattle.node_tree.specs.Tree.{has_source}
use Rattle.table_use.specs.Uses.{use_tree}
use Rattle.std.proofs.Common.{true, ap, ◌∙◌, subst}
use Rattle.life_rules.specs.declared.event.SourceRef.TheVariants.{Node}
use Rattle.table_words.specs.Controls.{source_read}
use Rattle.stop_calls.specs.Requests.{is_answer, IsAskedFor}
use Rattle.table_use.proofs.Forwarding.{failed-outer, leaf-tells, still-failed}
use Rattle.table_use.proofs.Steps.{on, one-longer, steps_of}
use Rattle.table_use.proofs.Readings.{requested-cause}
use Rattle.table_use.proofs.Reasons.{passed, scan-stop}
use Rattle.table_use.proofs.failing.tells.Goals as goal

pub scans-requires-clause-scans : goal.scans-requires-clause-scans
scans-requires-clause-scans c =
    let told = c.fail_stop-first.ensures.failed.asked in
    let answer = subst (λ q. is_answer (Node c.args.root) (source_read told.word).requested q) c.in-Made.is told.answer_is in
    failed-outer c.args.table.now c.args.root c.requires.root c.args.hand.now.me c.fail_stop-first.new.hand.me c.requires.idle _ told.word
    told.left answer.0 told.me_is c.in-Made.scan answer.1

pub returns-in-Already-clause-fault : goal.returns-in-Already-clause-fault
returns-in-Already-clause-fault c =
    let told = c.fail_stop-first.ensures.failed.asked in
    let asked = subst (λ q. is_answer (Node c.args.root) (source_read told.word).requested q) c.in-Already.is told.answer_is in
    requested-cause c.args.table.now c.args.root c.args.hand.now.me c.fail_stop-first.new.hand.me (ap (has_source use_tree) c.requires.root.three)
    told.word told.left told.is_of asked told.me_is

pub returns-in_err-ran-in-Made-clause-fault : goal.returns-in_err-ran-in-Made-clause-fault
returns-in_err-ran-in-Made-clause-fault c =
    let told = c.fail_stop-first.ensures.failed.asked in
    let made = subst (λ q. IsAskedFor c.args.table.now (Node c.args.root) true q c.args.hand.now c.fail_stop-first.new.hand) c.in-Made.is told in
    passed c.from_residual.result _ _ c.from_residual.ensures.1
    (scan-stop c.args.table.now c.args.root (ap (has_source use_tree) c.requires.root.three) true c.in-Made.scan c.args.hand.now c.fail_stop-first.new.hand
    c.scans.new.hand made _ c.in_err-ran-in-Made.ensures.fault)

pub returns-in_ok-ran-in-Made-clause-steps : goal.returns-in_ok-ran-in-Made-clause-steps
returns-in_ok-ran-in-Made-clause-steps c =
    on c.args.hand.now.me c.fail_stop-first.new.hand.me c.scans.new.hand.me
    (one-longer _ c.args.hand.now.me.0.steps c.fail_stop-first.new.hand.me.0.steps (ap steps_of c.fail_stop-first.ensures.failed.asked.me_is)) c.scans.ensures.steps

pub fail_stop-first-requires-clause-needs : goal.fail_stop-first-requires-clause-needs
fail_stop-first-requires-clause-needs c κs =
    leaf-tells c.args.table.now c.args.root c.requires.root c.args.hand.now.me c.requires.failed

pub returns-in-Already-clause-failed : goal.returns-in-Already-clause-failed
returns-in-Already-clause-failed c =
    let told = c.fail_stop-first.ensures.failed.asked in
    still-failed c.args.hand.now.me c.fail_stop-first.new.hand.me c.args.root (ap (λ z. z.0.reported) told.me_is) c.requires.failed

pub returns-in_ok-ran-in-Made-clause-failed : goal.returns-in_ok-ran-in-Made-clause-failed
returns-in_ok-ran-in-Made-clause-failed c =
    let told = c.fail_stop-first.ensures.failed.asked in
    still-failed c.args.hand.now.me c.scans.new.hand.me c.args.root (c.scans.ensures.reports ∙ ap (λ z. z.0.reported) told.me_is) c.requires.failed

pub returns-in_err-ran-in-Made-clause-failed : goal.returns-in_err-ran-in-Made-clause-failed
returns-in_err-ran-in-Made-clause-failed c =
    let told = c.fail_stop-first.ensures.failed.asked in
    still-failed c.args.hand.now.me c.scans.new.hand.me c.args.root (c.scans.ensures.reports ∙ ap (λ z. z.0.reported) told.me_is) c.requires.failed
