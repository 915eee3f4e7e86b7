use Rattle.std.proofs.Common.{arith}
use Rattle.std.proofs.lemmas.Grind.{common_steps}
use Rattle.plan_reasons.proofs.Keys.{keys_of-members_view}
use Rattle.plan_reasons.proofs.sentence.first_unknown.Goals as goal

pub keys-init : goal.keys-init
keys-init c = grind (arith, common_steps, keys_of-members_view)
