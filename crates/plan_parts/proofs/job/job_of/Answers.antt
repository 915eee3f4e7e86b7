use Rattle.serde_json.specs.View.{view}
use Rattle.plan_shape.specs.Conditions.{IsLawfulJob}
use Rattle.plan_parts.proofs.ReadingLemmas.{IfGood-with_keys}
use Rattle.plan_parts.proofs.job.job_of.Goals as goal

pub returns-in_ok-reading-in-Some-job_named-clause-lawful :
    goal.returns-in_ok-reading-in-Some-job_named-clause-lawful
returns-in_ok-reading-in-Some-job_named-clause-lawful c =
    let step = c.in_ok-reading-in-Some-job_named in
    IfGood-with_keys _ (view c.args.value.now) step.reading c.with_keys.result IsLawfulJob
    step.ensures.lawful c.with_keys.ensures
