use Rattle.std.proofs.Common.{ℕ, Vec, Global}
use Rattle.serde_json.specs.View.{view}
use Rattle.plan_writer.proofs.PlansBack.{bytes-back}
use Rattle.plan_writer.proofs.plan.write_plan.Goals as goal

pub returns-clause-read_back : goal.returns-clause-read_back
returns-clause-read_back c =
    bytes-back c.to_vec.result (λ (v : Vec ℕ Global). v.items) c.args.plan.now
    c.in_ok-plan_value.ensures.plan c.in_ok-plan_value.ensures.back
    (view c.in_ok-plan_value.field-0) c.in_ok-plan_value.ensures.value
    c.to_vec.ensures.utf8 c.to_vec.ensures.reads_back
