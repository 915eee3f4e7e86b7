use Rattle.node_walks.proofs.Walked.{walked-anyhow}
use Rattle.serve_ahead.proofs.AtHand.{may-leave, has-stepped, rests-since}
use Rattle.serve_ahead.proofs.leaving.put_back.Goals as goal

pub leave_parked-next-requires : goal.leave_parked-next-requires
leave_parked-next-requires g c =
    record {
      may =
          may-leave c.args.site.now c.args.at c.args.served.taken c.args.served.second c.args.hand.now c.requires.has;
    }

pub go_after-requires-clause-after : goal.go_after-requires-clause-after
go_after-requires-clause-after g c κs within =
    has-stepped c.args.site.now c.args.at c.args.served.taken c.args.served.second c.args.hand.now c.requires.has c.leave_parked-next.new.hand
    c.leave_parked-next.result c.leave_parked-next.ensures.steps

pub returns-clause-back : goal.returns-clause-back
returns-clause-back g c = record {
  next = c.leave_parked-next.result;
  left = c.leave_parked-next.new.hand;
  parks = c.leave_parked-next.ensures;
  after = walked-anyhow g.T.Stepper.does c.args.site.now c.args.at.name c.args.served.taken.name c.leave_parked-next.result c.leave_parked-next.new.hand.me
      c.go_after.new.hand.me c.requires.has.name_is c.go_after.ensures.walks;
}

pub returns-clause-rests : goal.returns-clause-rests
returns-clause-rests g c =
    rests-since c.args.site.now c.args.served.taken c.leave_parked-next.result c.leave_parked-next.new.hand c.leave_parked-next.ensures.steps c.go_after.new.hand
    c.go_after.ensures.stays c.go_after.ensures.rests c.go_after.ensures.aside
