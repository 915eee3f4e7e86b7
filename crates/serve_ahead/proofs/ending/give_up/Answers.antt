use Rattle.std.proofs.Common.{None}
use Rattle.exec_value.specs.declared.outcome.Completion.TheVariants.{NoMemory}
use Rattle.node_walks.proofs.Walked.{walked-anyhow}
use Rattle.serve_ahead.proofs.AtHand.{has-stepped, rests-since, may-want}
use Rattle.serve_ahead.proofs.ending.give_up.Goals as goal

pub want_memory-next-requires : goal.want_memory-next-requires
want_memory-next-requires g c =
    record {
      may =
          may-want c.args.site.now c.args.at c.args.taken None c.args.hand.now c.requires.has;
    }

pub go_after-requires-clause-after : goal.go_after-requires-clause-after
go_after-requires-clause-after g c κs within =
    has-stepped c.args.site.now c.args.at c.args.taken None c.args.hand.now c.requires.has c.want_memory-next.new.hand c.want_memory-next.result
    c.want_memory-next.ensures.steps

pub returns-clause-serves : goal.returns-clause-serves
returns-clause-serves g c = record {
  next = c.want_memory-next.result;
  completed = c.want_memory-next.new.hand;
  completes = c.want_memory-next.ensures;
  after = walked-anyhow g.T.Stepper.does c.args.site.now c.args.at.name c.args.taken.name c.want_memory-next.result c.want_memory-next.new.hand.me
      c.go_after.new.hand.me c.requires.has.name_is c.go_after.ensures.walks;
}

pub returns-clause-rests : goal.returns-clause-rests
returns-clause-rests g c =
    rests-since c.args.site.now c.args.taken c.want_memory-next.result c.want_memory-next.new.hand c.want_memory-next.ensures.steps c.go_after.new.hand
    c.go_after.ensures.stays c.go_after.ensures.rests c.go_after.ensures.aside
