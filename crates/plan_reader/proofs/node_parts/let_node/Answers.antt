use Rattle.std.proofs.Common.{ℕ, List, ap, ◌∙◌, rules}
use Rattle.exec_job.specs.declared.job.Job.{Job}
use Rattle.plan_parts.specs.Reading.{mapped}
use Rattle.plan_shape.specs.Conditions.{IsLawfulJob, MeetsConditions}
use Rattle.plan_reader.specs.NodeParts.{picking}
use Rattle.plan_reader.specs.declared.node_word.Let.{Let}
use Rattle.plan_reader.specs.declared.node_word.Let.TheVariants.{Value, Error, Stopped}
use Rattle.plan_reader.proofs.ReadMapped.{good-each, mapped-good, mapped-is}
use Rattle.plan_reader.proofs.node_parts.let_node.Goals as goal

picking-meets : (binding : Let) (child : ℕ) (bodies : List ℕ) (job : Job) → IsLawfulJob job
    → MeetsConditions (picking binding child bodies job)
picking-meets Value child bodies job lawful = lawful
picking-meets Error child bodies job lawful = lawful
picking-meets Stopped child bodies job lawful = lawful

pub returns : goal.returns
returns c =
    let f = picking c.args.binding c.args.child c.args.bodies in
    let step = c.in_ok-job_at in
    let made = mapped-is _ f step.field-0 c.map-made.result (λ job node is. search rules)
    c.map-made.ensures in
    record {
      value = made ∙ ap (mapped f) step.ensures.value;
      conditions = mapped-good IsLawfulJob MeetsConditions f step.field-0 c.map-made.result
          (picking-meets c.args.binding c.args.child c.args.bodies) made step.ensures.lawful;
    }

pub map-made-requires : goal.map-made-requires
map-made-requires c = good-each _ c.in_ok-job_at.field-0 (λ job. tt)
