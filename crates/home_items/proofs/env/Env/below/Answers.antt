use Rattle.home_items.proofs.Starting.{below-answers}
use Rattle.home_items.proofs.env.Env.below.Goals as goal

pub invariant_of-result : goal.invariant_of-result
invariant_of-result g c =
    rw c.of-shown.ensures
    (below-answers c.args.node c.args.args c.args.asked (g.X.Shows.start c.args.above.now) c.args.number
    c.requires.number c.requires.goes_on c.requires.carries)
