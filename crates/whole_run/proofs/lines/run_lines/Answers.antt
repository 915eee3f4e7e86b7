use Rattle.std.proofs.Common.{rules}
use Rattle.table_steps.specs.Closings.{claimed_by}
use Rattle.whole_run.proofs.BackLaws.{back-closable, closed-for}
use Rattle.whole_run.proofs.DeskLaws.{closed-all, still-closable}
use Rattle.whole_run.proofs.FrontLaws.{worked-as}
use Rattle.whole_run.proofs.lines.run_lines.Goals as goal

pub close_desks-desks-requires : goal.close_desks-desks-requires
close_desks-desks-requires g c =
    let opened = c.in_ok-opened.opened in
    record {
      all = still-closable opened.room opened.desks.items c.run_on_table-left.new.desks.items c.run_on_table-left.ensures.desks c.in_ok-opened.ensures.desks;
    }

pub close_table-closing-requires-clause-hands : goal.close_table-closing-requires-clause-hands
close_table-closing-requires-clause-hands g c κs =
    back-closable c.in_ok-opened.opened.table c.run_on_table-left.new.hands.items c.run_on_table-left.ensures.back

pub returns-clause-closed : goal.returns-clause-closed
returns-clause-closed g c =
    let opened = c.in_ok-opened.opened in
    let run = c.run_on_table-left in
    let closing = c.close_table-closing in
    let hands = run.new.hands.items in
    closed-for c.args.plan.now c.args.setup.window opened.table hands _ closing.result closing.ensures.board closing.ensures.hands
    c.in_ok-opened.ensures.for run.ensures.back closing.ensures.scope closing.ensures.counted
    (worked-as c.args.plan.now (claimed_by hands) run.result.came.now c.in_ok-answer.field-0 _ (search rules) (search rules) run.ensures.out.worked)

pub returns-clause-desked : goal.returns-clause-desked
returns-clause-desked g c =
    let opened = c.in_ok-opened.opened in
    closed-all c.args.setup.crew.workers opened.room opened.desks.items c.run_on_table-left.new.desks.items c.close_desks-desks.result
    c.in_ok-opened.ensures.seats c.run_on_table-left.ensures.desks c.close_desks-desks.ensures
