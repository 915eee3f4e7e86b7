use Rattle.step_parts.proofs.Emptied.{takes-back}
use Rattle.step_parts.proofs.taking.take_back.Goals as goal

pub returns-clause-takes : goal.returns-clause-takes
returns-clause-takes g c =
    takes-back c.args.site.now c.args.taken.now c.args.child c.requires.only c.requires.one c.take_child.result c.args.hand.now
    c.take_child.new.hand c.requires.opened c.take_child.ensures

pub returns-clause-found : goal.returns-clause-found
returns-clause-found g c = c.take_child.ensures.found c.requires.opened
