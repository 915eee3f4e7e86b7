use Rattle.std.proofs.Common.{false, ap, ◌∙◌}
use Rattle.node_tree.specs.Tree.{has_source}
use Rattle.stop_calls.specs.declared.scanning.Scan.{Scan}
use Rattle.table_use.proofs.Forwarding.{branch-scans, twig-is}
use Rattle.table_use.specs.Uses.{use_tree}
use Rattle.table_use.proofs.Steps.{on, stays, one-longer, steps_of}
use Rattle.table_use.proofs.Readings.{requested-cause}
use Rattle.table_use.proofs.passing.forwards.Goals as goal

pub runs_one-first-requires-clause-scans : goal.runs_one-first-requires-clause-scans
runs_one-first-requires-clause-scans c =
    branch-scans c.args.table.now c.args.place c.requires.node c.if-place-ne2.false c.args.hand.now c.request_stop.new.hand c.requires.inside
    c.in-Made.scan c.in-Made.ensures.requested

pub returns-in-Some-clause-twig : goal.returns-in-Some-clause-twig
returns-in-Some-clause-twig c =
    twig-is c.args.table.now c.args.place c.requires.node c.if-place-ne2.false c.in-Some.twig c.runs_one-first.new.scan.source
    (c.runs_one-first.ensures.source ∙ ap (λ (s : Scan). s.source) c.in-Made.ensures.requested.answer_is.1) c.in-Some.ensures.place

-- the request, a callback if there is one, and the rest of the scan
pub returns-in-Some-clause-steps : goal.returns-in-Some-clause-steps
returns-in-Some-clause-steps c =
    on c.args.hand.now.me c.request_stop.new.hand.me c.runs_out.new.hand.me
    (one-longer _ c.args.hand.now.me.0.steps c.request_stop.new.hand.me.0.steps (ap steps_of c.in-Made.ensures.requested.me_is))
    (on c.request_stop.new.hand.me c.runs_one-first.new.hand.me c.runs_out.new.hand.me c.runs_one-first.ensures.steps c.runs_out.ensures.steps)

pub returns-in-None-clause-steps : goal.returns-in-None-clause-steps
returns-in-None-clause-steps c =
    on c.args.hand.now.me c.request_stop.new.hand.me c.runs_out.new.hand.me
    (one-longer _ c.args.hand.now.me.0.steps c.request_stop.new.hand.me.0.steps (ap steps_of c.in-Made.ensures.requested.me_is))
    (on c.request_stop.new.hand.me c.runs_one-first.new.hand.me c.runs_out.new.hand.me c.runs_one-first.ensures.steps c.runs_out.ensures.steps)

pub returns-in-None-clause-fault : goal.returns-in-None-clause-fault
returns-in-None-clause-fault c = (
  c.args.place.node,
  ap (has_source use_tree) c.if-place-ne2.false,
  record {
    before = c.args.hand.now;
    began = stays c.args.hand.now.me;
    first = c.request_stop.new.hand;
    scan = c.in-Made.scan;
    failure = false;
    requested = c.in-Made.ensures.requested;
    came = record {
      last = c.runs_one-first.new.hand;
      after = c.runs_one-first.new.scan;
      through = c.in-None.ensures.through;
      went_on = c.runs_out.ensures.steps;
    };
  },
)

pub returns-in-Already-clause-steps : goal.returns-in-Already-clause-steps
returns-in-Already-clause-steps c =
    one-longer _ c.args.hand.now.me.0.steps c.request_stop.new.hand.me.0.steps (ap steps_of c.in-Already.ensures.requested.me_is)

pub returns-in-Already-clause-fault : goal.returns-in-Already-clause-fault
returns-in-Already-clause-fault c =
    let requested = c.in-Already.ensures.requested in
    requested-cause c.args.table.now c.args.place c.args.hand.now.me c.request_stop.new.hand.me (ap (has_source use_tree) c.if-place-ne2.false)
    requested.word requested.left requested.is_of requested.answer_is requested.me_is

pub returns-then-place-ne2-clause-steps : goal.returns-then-place-ne2-clause-steps
returns-then-place-ne2-clause-steps c = stays c.args.hand.now.me
