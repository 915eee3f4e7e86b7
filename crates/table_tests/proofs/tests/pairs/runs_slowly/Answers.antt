use Rattle.table_use.proofs.ScopeScans.{HasComeAlone, due-over, scan-unmade}
use Rattle.table_tests.proofs.tests.pairs.runs_slowly.Goals as goal

pub next-requires-clause-stands : goal.next-requires-clause-stands
next-requires-clause-stands c κs = c.in-Some.ensures.made.makes.stands

pub next-requires-clause-idle : goal.next-requires-clause-idle
next-requires-clause-idle c κs = c.in-Some.ensures.made.makes.unrun

pub finish-requires-clause-needs : goal.finish-requires-clause-needs
finish-requires-clause-needs c κs run =
    let alone : HasComeAlone c.args.table.now = record {
      before = c.in-Some.scan;
      after = c.next.new.self;
      old = c.asks.new.hand;
      new = c.next.new.hand;
      asks = c.in-Some.ensures.made;
      place = c.in-Some-next.due.place;
      kept = c.next.ensures.source;
      found = c.in-Some-next.ensures.scanned;
    } in
    scan-unmade alone c.in-Some-next.due.place

pub runs_out-requires-clause-scans : goal.runs_out-requires-clause-scans
runs_out-requires-clause-scans c =
    let alone : HasComeAlone c.args.table.now = record {
      before = c.in-Some.scan;
      after = c.next.new.self;
      old = c.asks.new.hand;
      new = c.next.new.hand;
      asks = c.in-Some.ensures.made;
      place = c.in-Some-next.due.place;
      kept = c.next.ensures.source;
      found = c.in-Some-next.ensures.scanned;
    } in
    (due-over alone c.finish.new.hand c.finish.ensures.over).makes
