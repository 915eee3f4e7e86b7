use Rattle.std.proofs.Common.{None}
use Rattle.step_parts.proofs.Started.{again-steps}
use Rattle.node_walks.proofs.Walked.{walked-anyhow}
use Rattle.serve_ahead.proofs.AtHand.{inner, may-run, has-stepped, rests-since}
use Rattle.serve_ahead.proofs.leaving.begin_second.Goals as goal

pub start_again-next-requires-clause-inner : goal.start_again-next-requires-clause-inner
start_again-next-requires-clause-inner g c =
    inner c.args.site.now c.args.at c.args.taken None c.args.hand.now c.requires.has

pub start_again-next-requires-clause-may : goal.start_again-next-requires-clause-may
start_again-next-requires-clause-may g c =
    may-run c.args.site.now c.args.at c.args.taken None c.args.hand.now c.requires.has c.asked-asked.result c.asked-asked.ensures

pub go_after-requires-clause-after : goal.go_after-requires-clause-after
go_after-requires-clause-after g c κs within =
    has-stepped c.args.site.now c.args.at c.args.taken None c.args.hand.now c.requires.has c.start_again-next.new.hand c.start_again-next.result
    (again-steps c.args.site.now c.args.taken c.args.at.second c.start_again-next.result c.args.hand.now c.start_again-next.new.hand c.start_again-next.ensures)

pub returns-clause-begins : goal.returns-clause-begins
returns-clause-begins g c = record {
  next = c.start_again-next.result;
  begun = c.start_again-next.new.hand;
  starts = c.start_again-next.ensures;
  after = walked-anyhow g.T.Stepper.does c.args.site.now c.args.at.name c.args.taken.name c.start_again-next.result c.start_again-next.new.hand.me
      c.go_after.new.hand.me c.requires.has.name_is c.go_after.ensures.walks;
}

pub returns-clause-rests : goal.returns-clause-rests
returns-clause-rests g c =
    rests-since c.args.site.now c.args.taken c.start_again-next.result c.start_again-next.new.hand (again-steps c.args.site.now c.args.taken c.args.at.second c.start_again-next.result c.args.hand.now c.start_again-next.new.hand c.start_again-next.ensures) c.go_after.new.hand
    c.go_after.ensures.stays c.go_after.ensures.rests c.go_after.ensures.aside

pub go_after-requires-clause-hand : goal.go_after-requires-clause-hand
go_after-requires-clause-hand g c κs within =
    (again-steps c.args.site.now c.args.taken c.args.at.second c.start_again-next.result c.args.hand.now c.start_again-next.new.hand c.start_again-next.ensures).stays.hand
