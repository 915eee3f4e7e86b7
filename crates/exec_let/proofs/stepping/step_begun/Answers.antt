use Rattle.step_parts.proofs.Started.{again-steps}
use Rattle.step_parts.proofs.Took.{taken-inner}
use Rattle.exec_let.proofs.Ended.{let-starts}
use Rattle.exec_let.proofs.stepping.step_begun.Goals as goal

pub start_again-requires-clause-inner : goal.start_again-requires-clause-inner
start_again-requires-clause-inner g c =
    taken-inner c.args.site.now c.args.taken c.open-child.new.hand c.open-child.ensures.taken c.args.node.now c.requires.may.node_is

pub start_again-requires-clause-may : goal.start_again-requires-clause-may
start_again-requires-clause-may g c =
    rw (c.let_child.ensures, c.asked-asked.ensures)
    (let-starts c.args.site.now c.args.taken c.args.node.now c.open-child.new.hand c.requires.may.node_is c.requires.may.is_let
    c.open-child.ensures.taken)

pub returns-clause-steps : goal.returns-clause-steps
returns-clause-steps g c =
    again-steps c.args.site.now c.args.taken c.let_child.result c.start_again.result c.open-child.new.hand c.start_again.new.hand c.start_again.ensures
