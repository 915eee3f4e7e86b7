use Rattle.std.proofs.Common.{refl, ap, ◌∙◌, rules}
use Rattle.std.specs.Prelude.{IsTrue}
use Rattle.exec_value.specs.ErrorName.{is_error_name}
use Rattle.node_tree.specs.declared.context.Context.{Context}
use Rattle.plan_rules.specs.Images.{has_maybe}
use Rattle.plan_rules.specs.declared.node.Node.TheVariants as node
use Rattle.plan_parts.specs.Reading.{mapped}
use Rattle.plan_shape.specs.Conditions.{IsLawfulJob, MeetsConditions}
use Rattle.plan_reader.proofs.ReadMapped.{good-each, mapped-any, mapped-good, mapped-is}
use Rattle.plan_reader.proofs.node_parts.adaptor_node.Goals as goal

pub returns-in_ok-job_at-in-Then : goal.returns-in_ok-job_at-in-Then
returns-in_ok-job_at-in-Then c =
    let f = node.Then c.args.child in
    let step = c.in_ok-job_at-in-Then in
    let map = c.map in
    let made = mapped-is _ f step.field-0 map.result (λ job node is. search rules) map.ensures in
    record {
      value = rw c.in-Then.is (made ∙ ap (mapped f) step.ensures.value);
      conditions = mapped-good IsLawfulJob MeetsConditions f step.field-0 map.result
          (λ job holds. holds) made step.ensures.lawful;
    }

pub returns-in_ok-job_at-in-UponError : goal.returns-in_ok-job_at-in-UponError
returns-in_ok-job_at-in-UponError c =
    let f = node.UponError c.args.child in
    let step = c.in_ok-job_at-in-UponError in
    let map = c.map-in-UponError in
    let made = mapped-is _ f step.field-0 map.result (λ job node is. search rules) map.ensures in
    record {
      value = rw c.in-UponError.is (made ∙ ap (mapped f) step.ensures.value);
      conditions = mapped-good IsLawfulJob MeetsConditions f step.field-0 map.result
          (λ job holds. holds) made step.ensures.lawful;
    }

pub returns-in_ok-job_at-in-UponStopped : goal.returns-in_ok-job_at-in-UponStopped
returns-in_ok-job_at-in-UponStopped c =
    let f = node.UponStopped c.args.child in
    let step = c.in_ok-job_at-in-UponStopped in
    let map = c.map-in-UponStopped in
    let made = mapped-is _ f step.field-0 map.result (λ job node is. search rules) map.ensures in
    record {
      value = rw c.in-UponStopped.is (made ∙ ap (mapped f) step.ensures.value);
      conditions = mapped-good IsLawfulJob MeetsConditions f step.field-0 map.result
          (λ job holds. holds) made step.ensures.lawful;
    }

pub returns-in-StartsOn : goal.returns-in-StartsOn
returns-in-StartsOn c =
    let f = λ (on : Context). node.StartsOn on c.args.child in
    let step = c.context_at in
    let map = c.map-in-StartsOn in
    let made = mapped-is _ f step.result map.result (λ on node is. search rules) map.ensures in
    record {
      value = rw c.in-StartsOn.is (made ∙ ap (mapped f) step.ensures);
      conditions = mapped-any MeetsConditions f step.result map.result (λ on. tt) made;
    }

pub returns-in-ContinuesOn : goal.returns-in-ContinuesOn
returns-in-ContinuesOn c =
    let f = node.ContinuesOn c.args.child in
    let step = c.context_at-in-ContinuesOn in
    let map = c.map-in-ContinuesOn in
    let made = mapped-is _ f step.result map.result (λ on node is. search rules) map.ensures in
    record {
      value = rw c.in-ContinuesOn.is (made ∙ ap (mapped f) step.ensures);
      conditions = mapped-any MeetsConditions f step.result map.result (λ on. tt) made;
    }

pub returns-in-StoppedAsOptional : goal.returns-in-StoppedAsOptional
returns-in-StoppedAsOptional c =
    let f = node.StoppedAsOptional c.args.child in
    let step = c.of_at in
    let map = c.map-in-StoppedAsOptional in
    let made = mapped-is _ f step.result map.result (λ of node is. search rules) map.ensures in
    record {
      value = rw c.in-StoppedAsOptional.is (made ∙ ap (mapped f) step.ensures.value);
      conditions = mapped-good (λ of. IsTrue (has_maybe of)) MeetsConditions f
          step.result map.result (λ of holds. holds) made step.ensures.maybe;
    }

pub returns-in_ok-name_at-in-StoppedAsError : goal.returns-in_ok-name_at-in-StoppedAsError
returns-in_ok-name_at-in-StoppedAsError c =
    let f = node.StoppedAsError c.args.child in
    let step = c.in_ok-name_at-in-StoppedAsError in
    let map = c.map-in-StoppedAsError in
    let made = mapped-is _ f step.field-0 map.result (λ error node is. search rules) map.ensures in
    record {
      value = rw c.in-StoppedAsError.is (made ∙ ap (mapped f) step.ensures.value);
      conditions = mapped-good (λ name. IsTrue (is_error_name name)) MeetsConditions f
          step.field-0 map.result (λ error holds. holds) made step.ensures.name;
    }

pub returns-in-Unstoppable-clause-value : goal.returns-in-Unstoppable-clause-value
returns-in-Unstoppable-clause-value c = rw c.in-Unstoppable.is refl

pub map-requires : goal.map-requires
map-requires c = good-each _ c.in_ok-job_at-in-Then.field-0 (λ job. tt)

pub map-requires-in-UponError : goal.map-requires-in-UponError
map-requires-in-UponError c = good-each _ c.in_ok-job_at-in-UponError.field-0 (λ job. tt)

pub map-requires-in-UponStopped : goal.map-requires-in-UponStopped
map-requires-in-UponStopped c = good-each _ c.in_ok-job_at-in-UponStopped.field-0 (λ job. tt)

pub map-requires-in-StartsOn : goal.map-requires-in-StartsOn
map-requires-in-StartsOn c = good-each _ c.context_at.result (λ on. tt)

pub map-requires-in-ContinuesOn : goal.map-requires-in-ContinuesOn
map-requires-in-ContinuesOn c = good-each _ c.context_at-in-ContinuesOn.result (λ on. tt)

pub map-requires-in-StoppedAsOptional : goal.map-requires-in-StoppedAsOptional
map-requires-in-StoppedAsOptional c = good-each _ c.of_at.result (λ of. tt)

pub map-requires-in-StoppedAsError : goal.map-requires-in-StoppedAsError
map-requires-in-StoppedAsError c =
    good-each _ c.in_ok-name_at-in-StoppedAsError.field-0 (λ error. tt)
