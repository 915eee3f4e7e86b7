use Rattle.std.proofs.lemmas.Result.{IfErr-weaker}
use Rattle.table_use.proofs.Steps.{on}
use Rattle.table_use.proofs.Reasons.{scan-then}
use Rattle.table_use.proofs.passing.scans.Goals as goal

pub returns-clause-steps : goal.returns-clause-steps
returns-clause-steps c =
    on c.args.hand.now.me c.passes-ran.new.hand.me c.runs_out.new.hand.me c.passes-ran.ensures.steps c.runs_out.ensures.steps

pub returns-clause-fault : goal.returns-clause-fault
returns-clause-fault c =
    IfErr-weaker c.passes-ran.result _ _
    (scan-then c.args.table.now c.args.root c.args.scan c.args.hand.now c.passes-ran.new.hand c.runs_out.new.hand c.runs_out.ensures.steps)
    c.passes-ran.ensures.fault
