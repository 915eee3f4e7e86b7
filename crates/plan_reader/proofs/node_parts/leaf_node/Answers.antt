use Rattle.std.proofs.Common.{refl, ap, ◌∙◌, rules, ◌≤◌}
use Rattle.std.specs.Prelude.{All, IsTrue}
use Rattle.exec_value.specs.ErrorName.{is_error_name}
use Rattle.exec_value.specs.Kinds.{IsConstant}
use Rattle.plan_rules.specs.declared.node.Node.TheVariants as node
use Rattle.plan_parts.specs.Reading.{mapped}
use Rattle.plan_shape.specs.Conditions.{MeetsConditions}
use Rattle.plan_shape.specs.declared.limits.TheConstants.{MOST_TURNS}
use Rattle.plan_reader.proofs.ReadMapped.{good-each, mapped-any, mapped-good, mapped-is}
use Rattle.plan_reader.proofs.node_parts.leaf_node.Goals as goal

pub returns-in_ok-constants_at-in-Just : goal.returns-in_ok-constants_at-in-Just
returns-in_ok-constants_at-in-Just c =
    let f = node.Just in
    let step = c.in_ok-constants_at-in-Just in
    let map = c.map in
    let made = mapped-is _ f step.field-0 map.result (λ values node is. search rules) map.ensures in
    record {
      value = rw c.in-Just.is (made ∙ ap (mapped f) step.ensures.value);
      conditions = mapped-good (All IsConstant) MeetsConditions f step.field-0 map.result
          (λ values holds. holds) made step.ensures.constants;
    }

pub returns-in_ok-name_at-in-JustError : goal.returns-in_ok-name_at-in-JustError
returns-in_ok-name_at-in-JustError c =
    let f = node.JustError in
    let step = c.in_ok-name_at-in-JustError in
    let map = c.map-in-JustError in
    let made = mapped-is _ f step.field-0 map.result (λ error node is. search rules) map.ensures in
    record {
      value = rw c.in-JustError.is (made ∙ ap (mapped f) step.ensures.value);
      conditions = mapped-good (λ name. IsTrue (is_error_name name)) MeetsConditions f
          step.field-0 map.result (λ error holds. holds) made step.ensures.name;
    }

pub returns-in-Schedule : goal.returns-in-Schedule
returns-in-Schedule c =
    let f = node.Schedule in
    let step = c.context_at in
    let map = c.map-in-Schedule in
    let made = mapped-is _ f step.result map.result (λ context node is. search rules) map.ensures in
    record {
      value = rw c.in-Schedule.is (made ∙ ap (mapped f) step.ensures);
      conditions = mapped-any MeetsConditions f step.result map.result (λ context. tt) made;
    }

pub returns-in-Delay : goal.returns-in-Delay
returns-in-Delay c =
    let f = node.Delay in
    let step = c.count_at in
    let map = c.map-in-Delay in
    let made = mapped-is _ f step.result map.result (λ turns node is. search rules) map.ensures in
    record {
      value = rw c.in-Delay.is (made ∙ ap (mapped f) step.ensures.value);
      conditions = mapped-good (λ turns. turns ≤ MOST_TURNS) MeetsConditions f
          step.result map.result (λ turns holds. holds) made step.ensures.most;
    }

pub returns-in-ReadEnv : goal.returns-in-ReadEnv
returns-in-ReadEnv c =
    let f = node.ReadEnv in
    let step = c.query_at in
    let map = c.map-in-ReadEnv in
    let made = mapped-is _ f step.result map.result (λ query node is. search rules) map.ensures in
    record {
      value = rw c.in-ReadEnv.is (made ∙ ap (mapped f) step.ensures);
      conditions = mapped-any MeetsConditions f step.result map.result (λ query. tt) made;
    }

pub returns-in-Input-clause-value : goal.returns-in-Input-clause-value
returns-in-Input-clause-value c = rw c.in-Input.is refl

pub returns-in-JustStopped-clause-value : goal.returns-in-JustStopped-clause-value
returns-in-JustStopped-clause-value c = rw c.in-JustStopped.is refl

pub map-requires : goal.map-requires
map-requires c = good-each _ c.in_ok-constants_at-in-Just.field-0 (λ values. tt)

pub map-requires-in-JustError : goal.map-requires-in-JustError
map-requires-in-JustError c = good-each _ c.in_ok-name_at-in-JustError.field-0 (λ error. tt)

pub map-requires-in-Schedule : goal.map-requires-in-Schedule
map-requires-in-Schedule c = good-each _ c.context_at.result (λ context. tt)

pub map-requires-in-Delay : goal.map-requires-in-Delay
map-requires-in-Delay c = good-each _ c.count_at.result (λ turns. tt)

pub map-requires-in-ReadEnv : goal.map-requires-in-ReadEnv
map-requires-in-ReadEnv c = good-each _ c.query_at.result (λ query. tt)
