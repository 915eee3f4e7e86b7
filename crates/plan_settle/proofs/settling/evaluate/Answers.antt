use Rattle.std.specs.Prelude.{Err}
use Rattle.std.proofs.Common.{◌-◌, length, sym, subst}
use Rattle.exec_value.specs.declared.outcome.Completion.{Completion}
use Rattle.plan_kinds.specs.Runnable.{RunsWith}
use Rattle.plan_settle.proofs.Root.{root-runs}
use Rattle.plan_settle.proofs.ShortErrors.{no-memory_wanted}
use Rattle.plan_settle.proofs.settling.evaluate.Goals as goal

pub settle-requires-clause-runs : goal.settle-requires-clause-runs
settle-requires-clause-runs c =
    let plan = c.args.plan.now in
    subst (λ n. RunsWith plan (n - 1) c.in_ok-args.args) (sym c.size-root.ensures.size)
    (subst (RunsWith plan (length plan.nodes - 1)) (sym c.in_ok-args.ensures.ok)
    (root-runs plan c.size-root.ensures.plan c.args.datum.now c.requires.datum_kind))

pub returns-in-Err-clause-in_place : goal.returns-in-Err-clause-in_place
returns-in-Err-clause-in_place c =
    λ small short.
    no-memory_wanted {A = Completion} c.args.plan.now c.size-root.ensures.plan small short c.args.number
    (Err c.in-Err.fault) (c.in-Err.ensures.small small)
