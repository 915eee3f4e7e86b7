use Rattle.std.proofs.Common.{sym, ap, subst}
use Rattle.life_rules.specs.declared.event.SourceRef.{SourceRef}
use Rattle.life_rules.specs.declared.event.SourceRef.TheVariants.{Scope}
use Rattle.stop_calls.specs.declared.scanning.Scan.{Scan}
use Rattle.plan_shape.specs.Blueprint.{Blueprint}
use Rattle.exec_recv.specs.Actions.{ListsActions}
use Rattle.record_operations.proofs.Requested.{made-nests, made-asks, already-asks}
use Rattle.record_operations.proofs.requesting.ask_scope.Goals as goal

pub run_scan-requires-clause-nests : goal.run_scan-requires-clause-nests
run_scan-requires-clause-nests g c =
    made-nests c.args.table.now c.args.hand.now c.request_scope.new.hand c.requires.rests c.requires.over.is_tree c.in-Made.scan
    c.in-Made.ensures.requested

pub returns-in-Made-clause-asked : goal.returns-in-Made-clause-asked
returns-in-Made-clause-asked g c =
    made-asks c.args.table.now c.args.hand.now c.request_scope.new.hand c.requires.rests c.requires.over.is_tree c.in-Made.scan
    c.in-Made.ensures.requested c.run_scan.new.hand.me c.run_scan.ensures.ended
    (subst (λ (plan : Blueprint). ListsActions c.args.table.now plan Scope c.request_scope.new.hand.me c.run_scan.new.hand.me) (sym c.requires.over.over)
    (subst (λ (s : SourceRef). ListsActions c.args.table.now c.args.plan.now s c.request_scope.new.hand.me c.run_scan.new.hand.me)
    (ap (λ (s : Scan). s.source) c.in-Made.ensures.requested.answer_is.1) c.run_scan.ensures.acts))

pub returns-in-Already-clause-asked : goal.returns-in-Already-clause-asked
returns-in-Already-clause-asked g c =
    already-asks c.args.table.now c.args.hand.now c.request_scope.new.hand c.requires.rests c.in-Already.ensures.requested
