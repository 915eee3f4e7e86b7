use Rattle.std.proofs.Common.{ap}
use Rattle.std.specs.Prelude.{is_some}
use Rattle.exec_recv.specs.Sites.{node_at}
use Rattle.exec_all.proofs.Stepped.{all-is, all-so, may-begin, may-open, steps-so, steps-then}
use Rattle.exec_all.proofs.stepping.AllsKind.step.Goals as goal

pub node-requires : goal.node-requires
node-requires g c = ap is_some (all-is (node_at c.args.site.now c.args.name) c.requires.kind).1

pub begin_all-requires : goal.begin_all-requires
begin_all-requires g c =
    let up = c.take_up-taken in
    record {
      may = may-begin c.args.site.now c.args.name c.as_slice-children.result.now
          (all-so (node_at c.args.site.now c.args.name) c.node.result.now c.in-WhenAll.children c.as_slice-children.result.now c.node.ensures
          c.in-WhenAll.is c.as_slice-children.ensures)
          up.result.0 up.result.1 c.args.hand.now up.new.hand c.requires.may up.ensures c.in-Start.is;
    }

pub step_begun-requires : goal.step_begun-requires
step_begun-requires g c =
    let up = c.take_up-taken in
    record {
      may = may-open c.args.site.now c.args.name c.as_slice-children.result.now
          (all-so (node_at c.args.site.now c.args.name) c.node.result.now c.in-WhenAll.children c.as_slice-children.result.now c.node.ensures
          c.in-WhenAll.is c.as_slice-children.ensures)
          up.result.0 up.result.1 c.args.hand.now up.new.hand c.requires.may up.ensures c.in_default-state.not-Start;
    }

pub returns-in_default-state-clause-steps : goal.returns-in_default-state-clause-steps
returns-in_default-state-clause-steps g c =
    let up = c.take_up-taken in
    steps-so c.args.site.now c.args.name c.as_slice-children.result.now
    (all-so (node_at c.args.site.now c.args.name) c.node.result.now c.in-WhenAll.children c.as_slice-children.result.now c.node.ensures
    c.in-WhenAll.is c.as_slice-children.ensures)
    up.result.0 up.result.1 c.args.hand.now up.new.hand c.requires.may up.ensures c.step_begun.result c.step_begun.new.hand
    c.step_begun.ensures.steps

pub returns-in_default-state-clause-does : goal.returns-in_default-state-clause-does
returns-in_default-state-clause-does g c =
    let up = c.take_up-taken in
    steps-then c.args.site.now c.args.name c.as_slice-children.result.now
    (all-so (node_at c.args.site.now c.args.name) c.node.result.now c.in-WhenAll.children c.as_slice-children.result.now c.node.ensures
    c.in-WhenAll.is c.as_slice-children.ensures)
    up.result.0 up.result.1 c.args.hand.now up.new.hand c.requires.may up.ensures c.step_begun.result c.step_begun.new.hand
    c.in_default-state.not-Start c.step_begun.ensures.does
