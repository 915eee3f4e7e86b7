use Rattle.std.proofs.Common.{arith, refl, ap, ◌∙◌, subst}
use Rattle.life_rules.specs.declared.event.Name.{Name}
use Rattle.node_tree.specs.Tree.{is_child}
use Rattle.table_use.specs.Starts.{done_at}
use Rattle.table_use.specs.Uses.{use_tree, HasEnded}
use Rattle.table_use.specs.declared.node.Fault.TheVariants.{Order}
use Rattle.table_use.proofs.Nodes.{kid-of, leaf-low}
use Rattle.table_use.proofs.Noted.{noted-still, reported-notes}
use Rattle.table_use.proofs.Waiting.{owed-kid}
use Rattle.table_use.proofs.Ending.{OwesLast, last-reports, last-holds, last-quiet}
use Rattle.table_use.proofs.Steps.{on, reported-on}
use Rattle.table_use.proofs.Reasons.{passed, node-at, node-on}
use Rattle.table_use.proofs.Stopping.{others-stops, others-calm, stops-within, stops-here, node-stops}
use Rattle.table_use.proofs.life.waits.Goals as goal

pub awaits_one-requires-clause-child : goal.awaits_one-requires-clause-child
awaits_one-requires-clause-child c = ap (λ p. is_child use_tree p 0) c.requires.root.three

pub opens-requires-clause-owes : goal.opens-requires-clause-owes
opens-requires-clause-owes c =
    owed-kid c.args.table.now c.args.root 0 c.args.env c.awaits_one.new.hand.me c.beside-leaf.result c.beside-leaf.ensures
    c.in_ok-awaits_one.ensures.owes

pub report-requires-clause-needs : goal.report-requires-clause-needs
report-requires-clause-needs c κs =
    let owes : OwesLast c.args.table.now c.args.root 0 (done_at c.args.env 0) c.ends.new.hand.me = record {
      is = c.requires.root;
      child = kid-of c.args.table.now c.args.root c.requires.root.is_node 3 0 c.requires.root.three refl;
      name = c.beside-leaf.result;
      name_is = c.beside-leaf.ensures;
      done = subst (λ (x : Name). HasEnded x (done_at c.args.env 0) c.ends.new.hand.me) c.beside-leaf.ensures c.in_ok-ends.ensures.ended.has;
      calm = c.ends.ensures.plays.scans ∙ c.opens.ensures.still.plays.scans ∙ c.awaits_one.ensures.still.plays.scans ∙ c.requires.calm;
    } in
    last-reports owes

pub returns-in-Last-clause-last : goal.returns-in-Last-clause-last
returns-in-Last-clause-last c =
    let owes : OwesLast c.args.table.now c.args.root 0 (done_at c.args.env 0) c.ends.new.hand.me = record {
      is = c.requires.root;
      child = kid-of c.args.table.now c.args.root c.requires.root.is_node 3 0 c.requires.root.three refl;
      name = c.beside-leaf.result;
      name_is = c.beside-leaf.ensures;
      done = subst (λ (x : Name). HasEnded x (done_at c.args.env 0) c.ends.new.hand.me) c.beside-leaf.ensures c.in_ok-ends.ensures.ended.has;
      calm = c.ends.ensures.plays.scans ∙ c.opens.ensures.still.plays.scans ∙ c.awaits_one.ensures.still.plays.scans ∙ c.requires.calm;
    } in
    last-holds owes c.report.new.hand.me c.in-Last.ensures.reported c.args.env c.requires.holds.is
    (noted-still c.args.root c.args.hand.now.me c.ends.new.hand.me c.args.env
    (c.ends.ensures.notes ∙ c.opens.ensures.notes (leaf-low c.args.root c.beside-leaf.result c.beside-leaf.ensures) ∙ c.awaits_one.ensures.notes)
    c.requires.noted)

pub returns-in-Last-clause-calm : goal.returns-in-Last-clause-calm
returns-in-Last-clause-calm c =
    let owes : OwesLast c.args.table.now c.args.root 0 (done_at c.args.env 0) c.ends.new.hand.me = record {
      is = c.requires.root;
      child = kid-of c.args.table.now c.args.root c.requires.root.is_node 3 0 c.requires.root.three refl;
      name = c.beside-leaf.result;
      name_is = c.beside-leaf.ensures;
      done = subst (λ (x : Name). HasEnded x (done_at c.args.env 0) c.ends.new.hand.me) c.beside-leaf.ensures c.in_ok-ends.ensures.ended.has;
      calm = c.ends.ensures.plays.scans ∙ c.opens.ensures.still.plays.scans ∙ c.awaits_one.ensures.still.plays.scans ∙ c.requires.calm;
    } in
    last-quiet owes c.report.new.hand.me c.in-Last.ensures.reported

pub returns-in-Others-clause-calm : goal.returns-in-Others-clause-calm
returns-in-Others-clause-calm c =
    others-calm c.args.table.now c.beside-leaf.result c.ends.new.hand.me c.report.new.hand.me c.in-Others.ensures.reported
    (c.ends.ensures.plays.scans ∙ c.opens.ensures.still.plays.scans ∙ c.awaits_one.ensures.still.plays.scans ∙ c.requires.calm)

pub returns-in-Last-clause-steps : goal.returns-in-Last-clause-steps
returns-in-Last-clause-steps c =
    on c.args.hand.now.me c.awaits_one.new.hand.me c.report.new.hand.me c.in_ok-awaits_one.ensures.steps
    (on c.awaits_one.new.hand.me c.opens.new.hand.me c.report.new.hand.me c.opens.ensures.steps
    (on c.opens.new.hand.me c.ends.new.hand.me c.report.new.hand.me c.in_ok-ends.ensures.steps
    (reported-on c.args.table.now c.beside-leaf.result c.ends.new.hand.me c.report.new.hand.me c.report.result c.report.ensures.reported)))

pub returns-in-Last-clause-notes : goal.returns-in-Last-clause-notes
returns-in-Last-clause-notes c =
    reported-notes c.args.table.now c.beside-leaf.result c.ends.new.hand.me c.report.new.hand.me c.report.result c.report.ensures.reported
    ∙ c.ends.ensures.notes ∙ c.opens.ensures.notes (leaf-low c.args.root c.beside-leaf.result c.beside-leaf.ensures) ∙ c.awaits_one.ensures.notes

pub returns-in-Others-clause-notes : goal.returns-in-Others-clause-notes
returns-in-Others-clause-notes c =
    reported-notes c.args.table.now c.beside-leaf.result c.ends.new.hand.me c.report.new.hand.me c.report.result c.report.ensures.reported
    ∙ c.ends.ensures.notes ∙ c.opens.ensures.notes (leaf-low c.args.root c.beside-leaf.result c.beside-leaf.ensures) ∙ c.awaits_one.ensures.notes

pub returns-in_err-ends-clause-notes : goal.returns-in_err-ends-clause-notes
returns-in_err-ends-clause-notes c =
    c.ends.ensures.notes ∙ c.opens.ensures.notes (leaf-low c.args.root c.beside-leaf.result c.beside-leaf.ensures) ∙ c.awaits_one.ensures.notes

pub returns-in_err-awaits_one-clause-calm : goal.returns-in_err-awaits_one-clause-calm
returns-in_err-awaits_one-clause-calm c = c.awaits_one.ensures.still.plays.scans ∙ c.requires.calm

pub returns-in_err-ends-clause-calm : goal.returns-in_err-ends-clause-calm
returns-in_err-ends-clause-calm c =
    c.ends.ensures.plays.scans ∙ c.opens.ensures.still.plays.scans ∙ c.awaits_one.ensures.still.plays.scans ∙ c.requires.calm

pub returns-in_err-awaits_one-clause-fault : goal.returns-in_err-awaits_one-clause-fault
returns-in_err-awaits_one-clause-fault c =
    passed c.from_residual.result _ _ c.from_residual.ensures.1
    (node-stops c.args.table.now c.args.hand.now.me c.awaits_one.new.hand.me c.args.root _ c.in_err-awaits_one.ensures.fault)

pub returns-in_err-ends-clause-fault : goal.returns-in_err-ends-clause-fault
returns-in_err-ends-clause-fault c =
    passed c.from_residual-in_err-ends.result _ _ c.from_residual-in_err-ends.ensures.1
    (stops-within c.args.table.now c.args.hand.now.me c.opens.new.hand.me c.ends.new.hand.me
    (on c.args.hand.now.me c.awaits_one.new.hand.me c.opens.new.hand.me c.in_ok-awaits_one.ensures.steps c.opens.ensures.steps) c.args.root _
    (node-stops c.args.table.now c.opens.new.hand.me c.ends.new.hand.me c.args.root _
    (node-at c.args.table.now c.opens.new.hand.me c.ends.new.hand.me c.args.root c.beside-leaf.result 0 c.beside-leaf.ensures _
    c.in_err-ends.ensures.fault)))

pub returns-in-Others-clause-fault : goal.returns-in-Others-clause-fault
returns-in-Others-clause-fault c =
    stops-here c.args.table.now c.args.hand.now.me c.report.new.hand.me c.args.root c.beside-leaf.result 0 (omega arith) c.beside-leaf.ensures Order
    (others-stops c.args.table.now c.beside-leaf.result c.ends.new.hand.me c.report.new.hand.me _ c.report.result c.in-Others.is
    c.report.ensures.reported c.in_ok-ends.ensures.ended)

pub returns-in-Others-clause-steps : goal.returns-in-Others-clause-steps
returns-in-Others-clause-steps c =
    on c.args.hand.now.me c.awaits_one.new.hand.me c.report.new.hand.me c.in_ok-awaits_one.ensures.steps
    (on c.awaits_one.new.hand.me c.opens.new.hand.me c.report.new.hand.me c.opens.ensures.steps
    (on c.opens.new.hand.me c.ends.new.hand.me c.report.new.hand.me c.in_ok-ends.ensures.steps
    (reported-on c.args.table.now c.beside-leaf.result c.ends.new.hand.me c.report.new.hand.me c.report.result c.report.ensures.reported)))

pub returns-in_err-awaits_one-clause-steps : goal.returns-in_err-awaits_one-clause-steps
returns-in_err-awaits_one-clause-steps c =
    node-on c.args.table.now c.args.hand.now.me c.awaits_one.new.hand.me c.args.root _ c.in_err-awaits_one.ensures.fault

pub returns-in_err-ends-clause-steps : goal.returns-in_err-ends-clause-steps
returns-in_err-ends-clause-steps c =
    on c.args.hand.now.me c.awaits_one.new.hand.me c.ends.new.hand.me c.in_ok-awaits_one.ensures.steps
    (on c.awaits_one.new.hand.me c.opens.new.hand.me c.ends.new.hand.me c.opens.ensures.steps
    (node-on c.args.table.now c.opens.new.hand.me c.ends.new.hand.me c.beside-leaf.result _ c.in_err-ends.ensures.fault))
