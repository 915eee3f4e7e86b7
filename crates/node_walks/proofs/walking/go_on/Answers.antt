use Rattle.op_slot.proofs.Staying.{stays-on}
use Rattle.exec_recv.proofs.Asiding.{aside-here, aside-on}
use Rattle.exec_recv.proofs.Stepped.{did-so}
use Rattle.node_walks.proofs.walking.go_on.Goals as goal

pub go_after-requires-clause-after : goal.go_after-requires-clause-after
go_after-requires-clause-after g c κs within = record {
  before = c.args.hand.now.me;
  can = c.requires.can;
  stepped = c.step-next.ensures.steps.stepped;
}

pub returns-clause-stays : goal.returns-clause-stays
returns-clause-stays g c =
    stays-on c.args.site.now c.args.hand.now c.step-next.new.hand c.go_after.new.hand c.step-next.ensures.steps.stays c.go_after.ensures.stays

pub returns-clause-first : goal.returns-clause-first
returns-clause-first g c = record {
  next = c.step-next.result;
  between = c.step-next.new.hand.me;
  did = did-so _ c.args.site.now c.args.name c.step-next.result c.args.hand.now c.step-next.new.hand c.step-next.ensures.does;
  stepped = c.step-next.ensures.steps.stepped;
  after = c.go_after.ensures.aside;
  last = c.go_after.new.hand.me;
  ready = c.go_after.ensures.walks.ready;
  walks = c.go_after.ensures.walks.leaves;
  since = aside-here c.go_after.new.hand.me;
}

pub returns-clause-only : goal.returns-clause-only
returns-clause-only g c = record {
  ready = c.go_after.ensures.walks.ready;
  leaves = record {
    next = c.step-next.result;
    between = c.step-next.new.hand.me;
    did = did-so _ c.args.site.now c.args.name c.step-next.result c.args.hand.now c.step-next.new.hand c.step-next.ensures.does;
    stepped = c.step-next.ensures.steps.stepped;
    walks = c.go_after.ensures.walks.leaves;
  };
  heard = c.go_after.ensures.walks.heard;
}

pub returns-clause-aside : goal.returns-clause-aside
returns-clause-aside g c =
    aside-on c.args.hand.now.me c.step-next.new.hand.me c.go_after.new.hand.me c.step-next.ensures.steps.stepped.aside c.go_after.ensures.aside
