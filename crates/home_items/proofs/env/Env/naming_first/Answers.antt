use Rattle.std.proofs.Common.{subst}
use Rattle.home_items.specs.Environments.{IsEnvironment}
use Rattle.home_items.proofs.Starting.{naming-answers}
use Rattle.home_items.proofs.env.Env.naming_first.Goals as goal

pub invariant_of-result : goal.invariant_of-result
invariant_of-result c =
    let env = c.self.inside in
    rw c.of-shown.ensures
    (naming-answers env.args env.number env.asked env.child c.args.first c.args.self
    (subst (IsEnvironment env.args env.number env.asked env.child) c.self.view_is c.self.invariant)
    c.requires.receiver c.requires.first)
