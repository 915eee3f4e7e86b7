use Rattle.std.proofs.Common.{◌≡◌, List, sym, subst, w64, to_z, of_z, arith}
use Rattle.std.specs.Prelude.{Result, IfOk, IfErr}
use Rattle.std.proofs.lemmas.Int.{to_z-of_z}
use Rattle.exec_recv.specs.Over.{IsOver}
use Rattle.home_items.specs.declared.entry.Entry.{Entry}
use Rattle.exec_value.specs.declared.outcome.Completion.{Completion}
use Rattle.plan_kinds.specs.Runnable.{IsRunnable}
use Rattle.plan_shape.specs.Blueprint.{Blueprint}
use Rattle.node_walks.specs.Starts.{CanRun}
use Rattle.run_loop.specs.Waits.{Waits}
use Rattle.by_example.specs.Answers.{IsAddCause, MayComplete}
use Rattle.run_workers.specs.Crews.{IsSpare}
use Rattle.by_example.specs.OneHand.{TheHand}
use Rattle.by_example.specs.declared.fault.AddFault.{AddFault}
use Rattle.by_example.proofs.OneHands.{first-number, new-back, new-ready}
use Rattle.by_example.proofs.OneRun.{int-runs, starts-int, waited-answer, waited-back, waited-fault}
use Rattle.by_example.proofs.running.run_number.Goals as goal

pub open-requires-clause-first : goal.open-requires-clause-first
open-requires-clause-first g c = first-number c.args.table.now c.args.hand c.requires.hand

pub of-requires : goal.of-requires
of-requires g c =
    record { over = subst (λ (plan : Blueprint). IsOver c.args.table.now plan) (sym c.requires.stepper) c.requires.table.over }

pub sync_wait-waited-requires-clause-ready : goal.sync_wait-waited-requires-clause-ready
sync_wait-waited-requires-clause-ready g c κs within =
    rw c.of.ensures (new-ready c.args.table.now c.args.hand c.requires.hand c.in-Ok.looped c.in-Ok.ensures.opened)

pub sync_wait-waited-requires-clause-site : goal.sync_wait-waited-requires-clause-site
sync_wait-waited-requires-clause-site g c κs within =
    let over = c.requires.table.over in
    rw c.of.ensures
    (record { over = subst (IsOver c.args.table.now) (sym over.over) over; kinds = subst IsRunnable (sym over.over) c.requires.plan.runs })

pub sync_wait-waited-requires-clause-start : goal.sync_wait-waited-requires-clause-start
sync_wait-waited-requires-clause-start g c κs within =
    let board = c.args.table.now in
    let plan = c.args.plan.now in
    let same : to_z w64 (of_z w64 c.args.number) ≡ c.args.number = grind (arith, to_z-of_z) in
    let start = starts-int plan c.of_record-env.result c.one-datum.result _ c.args.number c.of_record-env.ensures c.one-datum.ensures same in
    rw c.of.ensures
    (subst (λ (env : List Entry). CanRun board env) (sym start)
    (int-runs board plan c.requires.table.over c.requires.plan.small.input c.args.number))

pub returns-clause-completion : goal.returns-clause-completion
returns-clause-completion g c =
    let board = c.args.table.now in
    let plan = c.args.plan.now in
    let number = c.args.number in
    let waits = rw c.of.ensures at c.sync_wait-waited.ensures.waits in
    let same : to_z w64 (of_z w64 number) ≡ number = grind (arith, to_z-of_z) in
    let start = starts-int plan c.of_record-env.result c.one-datum.result _ number c.of_record-env.ensures c.one-datum.ensures same in
    subst (λ (answer : Result Completion AddFault). IfOk answer (MayComplete plan number)) (sym c.answer_of.ensures)
    (waited-answer board c.args.hand c.requires.hand c.in-Ok.looped c.sync_wait-waited.new.self c.in-Ok.ensures.opened.hand_is plan number
    c.sync_wait-waited.result c.requires.plan.small
    (subst (λ (env : List Entry). Waits board env c.in-Ok.looped c.sync_wait-waited.new.self c.sync_wait-waited.result) start waits))

pub returns-clause-fault : goal.returns-clause-fault
returns-clause-fault g c =
    let board = c.args.table.now in
    let opened = c.in-Ok.ensures.opened in
    let later = c.sync_wait-waited.new.self in
    subst (λ (back : TheHand). IfErr c.answer_of.result (IsAddCause board c.args.hand back)) (sym c.into_hand.ensures)
    (subst (λ (answer : Result Completion AddFault). IfErr answer (IsAddCause board c.args.hand later.hand)) (sym c.answer_of.ensures)
    (waited-fault board c.args.hand c.requires.hand c.in-Ok.looped later opened.hand_is opened.next c.of_record-env.result
    c.sync_wait-waited.result (rw c.of.ensures at c.sync_wait-waited.ensures.waits)))

pub returns-clause-hand : goal.returns-clause-hand
returns-clause-hand g c =
    let board = c.args.table.now in
    let sync_wait = c.sync_wait-waited in
    subst (IsSpare board) (sym c.into_hand.ensures)
    (waited-back board c.args.hand c.requires.hand c.in-Ok.looped sync_wait.new.self c.in-Ok.ensures.opened.hand_is c.of_record-env.result
    sync_wait.result (rw c.of.ensures at sync_wait.ensures.waits) (rw c.of.ensures at sync_wait.ensures.ready))

pub returns-in-Err-clause-hand : goal.returns-in-Err-clause-hand
returns-in-Err-clause-hand g c =
    subst (IsSpare c.args.table.now) (sym c.in-Err.ensures.back) (new-back c.args.table.now c.args.hand c.requires.hand)
