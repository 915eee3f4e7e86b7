use Rattle.std.proofs.Common.{sym, ap, ◌∙◌, subst}
use Rattle.life_rules.specs.declared.event.Name.{Name}
use Rattle.life_rules.specs.declared.event.SourceRef.{SourceRef}
use Rattle.stop_calls.proofs.Nesting.{found-fewer}
use Rattle.stop_calls.proofs.Passing.{through-on}
use Rattle.table_use.specs.declared.cargo.Item.{Item}
use Rattle.table_use.specs.declared.cargo.Entry.{Entry}
use Rattle.table_use.specs.Scans.{other_scans}
use Rattle.table_use.specs.Counts.{RunsOne}
use Rattle.table_use.proofs.Nesting.{HasCome, HasGoneThrough, at-once, found-ends, over-scans, through-scans, passed-keeps, ran-on}
use Rattle.table_use.proofs.scans.runs_one.Goals as goal

pub finish-requires-clause-needs : goal.finish-requires-clause-needs
finish-requires-clause-needs c κs =
    let come : HasCome Item Entry c.args.table.now = record {
      before = c.args.scan.now;
      after = c.next.new.self;
      old = c.args.hand.now;
      new = c.next.new.hand;
      makes = c.requires.scans;
      place = c.in-Some.due.place;
      kept = c.next.ensures.source;
      found = c.in-Some.ensures.scanned;
    } in
    found-ends come (at-once come)

pub returns-in-Some-clause-scans : goal.returns-in-Some-clause-scans
returns-in-Some-clause-scans c =
    let come : HasCome Item Entry c.args.table.now = record {
      before = c.args.scan.now;
      after = c.next.new.self;
      old = c.args.hand.now;
      new = c.next.new.hand;
      makes = c.requires.scans;
      place = c.in-Some.due.place;
      kept = c.next.ensures.source;
      found = c.in-Some.ensures.scanned;
    } in
    over-scans come (at-once come) c.finish.ensures.over

pub returns-in-None-clause-scans : goal.returns-in-None-clause-scans
returns-in-None-clause-scans c =
    let gone : HasGoneThrough Item Entry c.args.table.now = record {
      before = c.args.scan.now;
      after = c.next.new.self;
      old = c.args.hand.now;
      new = c.next.new.hand;
      makes = c.requires.scans;
      kept = c.next.ensures.source;
      through = c.in-None.ensures.scanned;
    } in
    through-scans gone

pub returns-in-Some-clause-fewer : goal.returns-in-Some-clause-fewer
returns-in-Some-clause-fewer c =
    found-fewer c.args.table.now c.args.scan.now c.next.new.self c.args.hand.now c.next.new.hand c.in-Some.due.place c.in-Some.ensures.scanned

-- what both leave
pub returns-in-Some-clause-runs : goal.returns-in-Some-clause-runs
returns-in-Some-clause-runs c =
    let come : HasCome Item Entry c.args.table.now = record {
      before = c.args.scan.now;
      after = c.next.new.self;
      old = c.args.hand.now;
      new = c.next.new.hand;
      makes = c.requires.scans;
      place = c.in-Some.due.place;
      kept = c.next.ensures.source;
      found = c.in-Some.ensures.scanned;
    } in
    (ran-on come c.finish.new.hand c.finish.ensures.over).runs

pub returns-in-Some-clause-others : goal.returns-in-Some-clause-others
returns-in-Some-clause-others c =
    let come : HasCome Item Entry c.args.table.now = record {
      before = c.args.scan.now;
      after = c.next.new.self;
      old = c.args.hand.now;
      new = c.next.new.hand;
      makes = c.requires.scans;
      place = c.in-Some.due.place;
      kept = c.next.ensures.source;
      found = c.in-Some.ensures.scanned;
    } in
    let on = ran-on come c.finish.new.hand c.finish.ensures.over in
    ap (λ (s : SourceRef). other_scans s c.finish.new.hand.me) c.next.ensures.source ∙ on.others
    ∙ ap (λ (s : SourceRef). other_scans s c.args.hand.now.me) (sym c.next.ensures.source)

pub returns-in-Some-clause-reports : goal.returns-in-Some-clause-reports
returns-in-Some-clause-reports c =
    let come : HasCome Item Entry c.args.table.now = record {
      before = c.args.scan.now;
      after = c.next.new.self;
      old = c.args.hand.now;
      new = c.next.new.hand;
      makes = c.requires.scans;
      place = c.in-Some.due.place;
      kept = c.next.ensures.source;
      found = c.in-Some.ensures.scanned;
    } in
    (ran-on come c.finish.new.hand c.finish.ensures.over).passed.aside.reported

pub returns-in-Some-clause-steps : goal.returns-in-Some-clause-steps
returns-in-Some-clause-steps c =
    let come : HasCome Item Entry c.args.table.now = record {
      before = c.args.scan.now;
      after = c.next.new.self;
      old = c.args.hand.now;
      new = c.next.new.hand;
      makes = c.requires.scans;
      place = c.in-Some.due.place;
      kept = c.next.ensures.source;
      found = c.in-Some.ensures.scanned;
    } in
    (ran-on come c.finish.new.hand c.finish.ensures.over).passed.aside.steps

pub returns-in-Some-clause-holds : goal.returns-in-Some-clause-holds
returns-in-Some-clause-holds c =
    let come : HasCome Item Entry c.args.table.now = record {
      before = c.args.scan.now;
      after = c.next.new.self;
      old = c.args.hand.now;
      new = c.next.new.hand;
      makes = c.requires.scans;
      place = c.in-Some.due.place;
      kept = c.next.ensures.source;
      found = c.in-Some.ensures.scanned;
    } in
    passed-keeps c.args.hand.now.me c.finish.new.hand.me (ran-on come c.finish.new.hand c.finish.ensures.over).passed

pub returns-in-None-clause-others : goal.returns-in-None-clause-others
returns-in-None-clause-others c =
    let gone : HasGoneThrough Item Entry c.args.table.now = record {
      before = c.args.scan.now;
      after = c.next.new.self;
      old = c.args.hand.now;
      new = c.next.new.hand;
      makes = c.requires.scans;
      kept = c.next.ensures.source;
      through = c.in-None.ensures.scanned;
    } in
    let on = through-on gone in
    ap (λ (s : SourceRef). other_scans s c.next.new.hand.me) c.next.ensures.source ∙ on.others
    ∙ ap (λ (s : SourceRef). other_scans s c.args.hand.now.me) (sym c.next.ensures.source)

pub returns-in-None-clause-steps : goal.returns-in-None-clause-steps
returns-in-None-clause-steps c =
    let gone : HasGoneThrough Item Entry c.args.table.now = record {
      before = c.args.scan.now;
      after = c.next.new.self;
      old = c.args.hand.now;
      new = c.next.new.hand;
      makes = c.requires.scans;
      kept = c.next.ensures.source;
      through = c.in-None.ensures.scanned;
    } in
    (through-on gone).passed.aside.steps

pub returns-in-None-clause-holds : goal.returns-in-None-clause-holds
returns-in-None-clause-holds c =
    let gone : HasGoneThrough Item Entry c.args.table.now = record {
      before = c.args.scan.now;
      after = c.next.new.self;
      old = c.args.hand.now;
      new = c.next.new.hand;
      makes = c.requires.scans;
      kept = c.next.ensures.source;
      through = c.in-None.ensures.scanned;
    } in
    passed-keeps c.args.hand.now.me c.next.new.hand.me (through-on gone).passed

pub returns-in-Some-clause-ran : goal.returns-in-Some-clause-ran
returns-in-Some-clause-ran c =
    subst (λ (x : Name). RunsOne c.args.table.now c.args.scan.now c.next.new.self x c.args.hand.now c.finish.new.hand) (sym c.place-place.ensures)
    (record { running = c.next.new.hand; found = c.in-Some.ensures.scanned; over = c.finish.ensures.over })
