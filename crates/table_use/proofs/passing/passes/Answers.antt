use Rattle.std.proofs.Common.{inl, subst}
use Rattle.life_rules.specs.declared.event.Name.{Name}
use Rattle.table_use.specs.Causes.{IsCauseAt}
use Rattle.table_use.proofs.Nesting.{DidInside, found-ends}
use Rattle.table_use.proofs.Forwarding.{HasComeOuter, come, outer-on, outer-cause, outer-through}
use Rattle.table_use.proofs.Steps.{on, stays, found-on, through-on, over-on}
use Rattle.table_use.proofs.Reasons.{passed}
use Rattle.table_use.proofs.passing.passes.Goals as goal

pub finish-requires-clause-needs : goal.finish-requires-clause-needs
finish-requires-clause-needs c κs =
    let came : HasComeOuter c.args.table.now c.args.root = record {
      is = c.requires.root;
      before = c.args.scan.now;
      after = c.next.new.self;
      old = c.args.hand.now;
      new = c.next.new.hand;
      outer = c.requires.scans;
      place = c.in-Some.due.place;
      kept = c.next.ensures.source;
      found = c.in-Some.ensures.scanned;
    } in
    let kept = c.forwards-twig.ensures.still.plays in
    let did : DidInside (come came) = record { mid = c.forwards-twig.new.hand; runs = kept.runs; scans = kept.scans } in
    found-ends (come came) did

pub returns-in_err-twig-in-Some-clause-scans : goal.returns-in_err-twig-in-Some-clause-scans
returns-in_err-twig-in-Some-clause-scans c =
    let came : HasComeOuter c.args.table.now c.args.root = record {
      is = c.requires.root;
      before = c.args.scan.now;
      after = c.next.new.self;
      old = c.args.hand.now;
      new = c.next.new.hand;
      outer = c.requires.scans;
      place = c.in-Some.due.place;
      kept = c.next.ensures.source;
      found = c.in-Some.ensures.scanned;
    } in
    let kept = c.forwards-twig.ensures.still.plays in
    let did : DidInside (come came) = record { mid = c.forwards-twig.new.hand; runs = kept.runs; scans = kept.scans } in
    outer-on came did c.finish.new.hand c.finish.ensures.over

pub returns-in_ok-twig-in-Some-clause-scans : goal.returns-in_ok-twig-in-Some-clause-scans
returns-in_ok-twig-in-Some-clause-scans c =
    let came : HasComeOuter c.args.table.now c.args.root = record {
      is = c.requires.root;
      before = c.args.scan.now;
      after = c.next.new.self;
      old = c.args.hand.now;
      new = c.next.new.hand;
      outer = c.requires.scans;
      place = c.in-Some.due.place;
      kept = c.next.ensures.source;
      found = c.in-Some.ensures.scanned;
    } in
    let kept = c.forwards-twig.ensures.still.plays in
    let did : DidInside (come came) = record { mid = c.forwards-twig.new.hand; runs = kept.runs; scans = kept.scans } in
    outer-on came did c.finish.new.hand c.finish.ensures.over

pub returns-in-None-clause-scans : goal.returns-in-None-clause-scans
returns-in-None-clause-scans c =
    outer-through c.args.table.now c.args.root c.args.scan.now c.next.new.self c.args.hand.now c.next.new.hand c.requires.scans
    c.next.ensures.source c.in-None.ensures.scanned

pub returns-in_err-twig-in-Some-clause-steps : goal.returns-in_err-twig-in-Some-clause-steps
returns-in_err-twig-in-Some-clause-steps c =
    on c.args.hand.now.me c.next.new.hand.me c.finish.new.hand.me
    (found-on c.args.table.now c.args.scan.now c.next.new.self c.args.hand.now c.next.new.hand c.in-Some.due.place c.in-Some.ensures.scanned)
    (on c.next.new.hand.me c.forwards-twig.new.hand.me c.finish.new.hand.me c.forwards-twig.ensures.steps
    (over-on c.args.table.now c.forwards-twig.new.hand c.finish.new.hand c.in-Some.due.place c.finish.ensures.over))

pub returns-in_ok-twig-in-Some-clause-steps : goal.returns-in_ok-twig-in-Some-clause-steps
returns-in_ok-twig-in-Some-clause-steps c =
    on c.args.hand.now.me c.next.new.hand.me c.finish.new.hand.me
    (found-on c.args.table.now c.args.scan.now c.next.new.self c.args.hand.now c.next.new.hand c.in-Some.due.place c.in-Some.ensures.scanned)
    (on c.next.new.hand.me c.forwards-twig.new.hand.me c.finish.new.hand.me c.forwards-twig.ensures.steps
    (over-on c.args.table.now c.forwards-twig.new.hand c.finish.new.hand c.in-Some.due.place c.finish.ensures.over))

pub returns-in-None-clause-steps : goal.returns-in-None-clause-steps
returns-in-None-clause-steps c =
    through-on c.args.table.now c.args.scan.now c.next.new.self c.args.hand.now c.next.new.hand c.in-None.ensures.scanned

pub returns-in_err-twig-in-Some-clause-fault : goal.returns-in_err-twig-in-Some-clause-fault
returns-in_err-twig-in-Some-clause-fault c =
    let came : HasComeOuter c.args.table.now c.args.root = record {
      is = c.requires.root;
      before = c.args.scan.now;
      after = c.next.new.self;
      old = c.args.hand.now;
      new = c.next.new.hand;
      outer = c.requires.scans;
      place = c.in-Some.due.place;
      kept = c.next.ensures.source;
      found = c.in-Some.ensures.scanned;
    } in
    let cause =
    subst (λ (y : Name). IsCauseAt c.args.table.now c.next.new.hand.me c.forwards-twig.new.hand.me y c.in_err-twig-in-Some.field-0.0)
    c.place-place.ensures c.in_err-twig-in-Some.ensures.fault in
    passed c.from_residual.result _ _ c.from_residual.ensures.1
    (outer-cause came c.forwards-twig.new.hand c.finish.new.hand c.forwards-twig.ensures.steps
    (over-on c.args.table.now c.forwards-twig.new.hand c.finish.new.hand c.in-Some.due.place c.finish.ensures.over) _ cause)

pub returns-in-None-clause-fault : goal.returns-in-None-clause-fault
returns-in-None-clause-fault c =
    inl (record { last = c.next.new.hand; after = c.next.new.self; through = c.in-None.ensures.scanned; went_on = stays c.next.new.hand.me })
