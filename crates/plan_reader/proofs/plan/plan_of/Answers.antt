use Rattle.serde_json.specs.View.{view}
use Rattle.plan_reader.proofs.RootedPlan.{has_one_root-read}
use Rattle.plan_reader.proofs.plan.plan_of.Goals as goal

pub joined-requires-clause-roots : goal.joined-requires-clause-roots
joined-requires-clause-roots c =
    has_one_root-read (view c.args.value.now) c.known_settings.result c.in_ok-walk.walk
    c.known_settings.ensures.value c.in_ok-walk.ensures
