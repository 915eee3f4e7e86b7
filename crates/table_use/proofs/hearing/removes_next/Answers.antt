use Rattle.std.proofs.Common.{refl, sym, subst}
use Rattle.table_use.specs.Asking.{RemovesNext}
use Rattle.table_use.proofs.Nesting.{found-keeps}
use Rattle.table_use.proofs.Roots.{still-root, can-withdraw}
use Rattle.table_use.proofs.ScopeScans.{HasComeAlone, come, scan-unmade, may-finish, inside-asks, scan-through}
use Rattle.table_use.proofs.hearing.removes_next.Goals as goal

pub try_withdraw-inside-requires-clause-needs : goal.try_withdraw-inside-requires-clause-needs
try_withdraw-inside-requires-clause-needs c κs =
    let board = c.args.table.now in
    let alone : HasComeAlone c.args.table.now = record {
      before = c.args.scan.now;
      after = c.next.new.self;
      old = c.args.hand.now;
      new = c.next.new.hand;
      asks = c.requires.scan;
      place = c.in_ok-due.due.place;
      kept = c.next.ensures.source;
      found = c.in_ok-due.ensures.scanned;
    } in
    can-withdraw board c.args.root _ c.next.new.hand.me
    (still-root board c.args.root c.args.hand.now.me c.next.new.hand.me _ (found-keeps (come alone)) c.requires.holds)
    refl (scan-unmade alone c.args.root)

pub finish-requires-clause-needs : goal.finish-requires-clause-needs
finish-requires-clause-needs c κs =
    let alone : HasComeAlone c.args.table.now = record {
      before = c.args.scan.now;
      after = c.next.new.self;
      old = c.args.hand.now;
      new = c.next.new.hand;
      asks = c.requires.scan;
      place = c.in_ok-due.due.place;
      kept = c.next.ensures.source;
      found = c.in_ok-due.ensures.scanned;
    } in
    may-finish alone c.args.root c.try_withdraw-inside.new.hand c.try_withdraw-inside.result c.try_withdraw-inside.ensures.tried

pub returns-in_err-due-clause-scan : goal.returns-in_err-due-clause-scan
returns-in_err-due-clause-scan c =
    scan-through c.args.table.now c.args.scan.now c.next.new.self c.args.hand.now c.next.new.hand c.requires.scan c.next.ensures.source
    c.in_err-due.ensures.scanned

pub returns-clause-scan : goal.returns-clause-scan
returns-clause-scan c =
    let alone : HasComeAlone c.args.table.now = record {
      before = c.args.scan.now;
      after = c.next.new.self;
      old = c.args.hand.now;
      new = c.next.new.hand;
      asks = c.requires.scan;
      place = c.in_ok-due.due.place;
      kept = c.next.ensures.source;
      found = c.in_ok-due.ensures.scanned;
    } in
    inside-asks alone c.args.root c.try_withdraw-inside.new.hand c.finish.new.hand c.finish.ensures.over
    c.try_withdraw-inside.result c.try_withdraw-inside.ensures.tried

pub next-requires-clause-stands : goal.next-requires-clause-stands
next-requires-clause-stands c κs = c.requires.scan.makes.stands

pub next-requires-clause-idle : goal.next-requires-clause-idle
next-requires-clause-idle c κs = c.requires.scan.makes.unrun

pub returns-in_err-due-clause-removed : goal.returns-in_err-due-clause-removed
returns-in_err-due-clause-removed c =
    subst (λ r. RemovesNext c.args.table.now c.args.root c.args.scan.now c.next.new.self r c.args.hand.now c.next.new.hand)
    (sym c.from_residual.ensures) c.in_err-due.ensures.scanned

pub returns-clause-removed : goal.returns-clause-removed
returns-clause-removed c =
    record {
      place = c.in_ok-due.due.place;
      running = c.next.new.hand;
      found = c.in_ok-due.ensures.scanned;
      tried = c.try_withdraw-inside.new.hand;
      answered = c.try_withdraw-inside.ensures.tried;
      over = c.finish.ensures.over;
    }
