use Rattle.std.proofs.Common.{refl, ap, ◌∙◌}
use Rattle.record_operations.specs.Runs.{Run}
use Rattle.table_steps.specs.Views.{knows}
use Rattle.whole_run.specs.Endings.{streams}
use Rattle.whole_run.specs.Fronts.{opening_by, streams_of}
use Rattle.whole_run.proofs.BackLaws.{ended-on}
use Rattle.whole_run.proofs.FrontLaws.{run-out, unbegun-out}
use Rattle.whole_run.proofs.OwnLaws.{marked-kept}
use Rattle.whole_run.proofs.front.LinesFrontFront.work.Goals as goal

pub returns-in-Ok-clause-leaves : goal.returns-in-Ok-clause-leaves
returns-in-Ok-clause-leaves g c =
    let front = c.args.self.now in
    let loop = c.run_records-answer in
    let tells = loop.ensures in
    let mark = c.requires.needs.1 in
    let opened = c.in-Ok.ensures.opened in
    let helps = c.help_pool.ensures in
    let ran = loop.new.operations in
    record {
      same_source = refl;
      same_sink = refl;
      same_came = refl;
      out = run-out front.on.plan.now front.on.table.now front.on.window front.on.form
          (streams_of g.S.RecordSource.told g.S.RecordSource.reads g.K.Sink.told front)
          (streams (g.S.RecordSource.told loop.new.records) (g.S.RecordSource.reads loop.new.records) (g.K.Sink.told loop.new.out))
          c.help_pool.new.self ran c.tally-tally.result loop.result g.B.OnTable.claimed (knows c.end-hand.result.hand).claimed
          (ap (λ (r : Run). r.plan) helps ∙ opened.plan_is) (ap (λ (r : Run). r.board) helps ∙ opened.board_is) mark.unclaimed c.tally-tally.ensures
          (record {
            untouched = tells.untouched;
            unread = tells.unread;
            later = tells.later;
            still = tells.still;
            ran = tells.ran;
            told = tells.told;
            ended = tells.ended;
            reads = tells.reads;
          })
          tells.plan
          c.end-hand.ensures.worked;
      ended = ended-on g.B.OnTable.is front.on.table.now c.end-hand.result.hand mark.alone c.end-hand.ensures.ended;
    }

pub returns-in-Ok-clause-desk : goal.returns-in-Ok-clause-desk
returns-in-Ok-clause-desk g c =
    marked-kept g.B.OnTable.is g.B.OnTable.claimed g.B.OnTable.desk c.args.self.now.on.table.now c.args.desk c.end-hand.result.desk c.requires.needs.1 c.end-hand.ensures.desk

pub returns-in-Err-clause-leaves : goal.returns-in-Err-clause-leaves
returns-in-Err-clause-leaves g c =
    let front = c.args.self.now in
    let mark = c.requires.needs.1 in
    record {
      same_source = refl;
      same_sink = refl;
      same_came = refl;
      out = unbegun-out (opening_by g.K.Sink.told front) (streams_of g.S.RecordSource.told g.S.RecordSource.reads g.K.Sink.told front)
          c.none-self.result (knows c.give_up-hand.result.hand).claimed c.none-self.ensures;
      ended = ended-on g.B.OnTable.is front.on.table.now c.give_up-hand.result.hand mark.alone c.give_up-hand.ensures.ended;
    }

pub returns-in-Err-clause-desk : goal.returns-in-Err-clause-desk
returns-in-Err-clause-desk g c =
    marked-kept g.B.OnTable.is g.B.OnTable.claimed g.B.OnTable.desk c.args.self.now.on.table.now c.args.desk c.give_up-hand.result.desk c.requires.needs.1 c.give_up-hand.ensures.desk
