use Rattle.std.proofs.Common.{sym, ◌∙◌, subst}
use Rattle.table_use.specs.Asking.{AsksAll}
use Rattle.table_use.proofs.Nesting.{keeps-on}
use Rattle.table_use.proofs.ScopeScans.{asks-others}
use Rattle.table_use.proofs.hearing.asks_all.Goals as goal

pub runs_out-requires-clause-scans : goal.runs_out-requires-clause-scans
runs_out-requires-clause-scans c = c.in_ok-scan.ensures.made.makes

pub returns-clause-idle : goal.returns-clause-idle
returns-clause-idle c =
    let made = c.in_ok-scan.ensures.made in
    record {
      runs = c.runs_out.ensures.runs ∙ made.runs;
      scans = c.runs_out.ensures.scans ∙ asks-others c.args.table.now c.in_ok-scan.scan c.asks.new.hand.me made;
    }

pub returns-clause-holds : goal.returns-clause-holds
returns-clause-holds c =
    keeps-on c.args.hand.now.me c.asks.new.hand.me c.runs_out.new.hand.me c.asks.ensures.holds c.runs_out.ensures.holds

pub returns-in_err-scan-clause-asked : goal.returns-in_err-scan-clause-asked
returns-in_err-scan-clause-asked c =
    subst (λ r. AsksAll c.args.table.now r c.args.hand.now c.asks.new.hand) (sym c.from_residual.ensures) c.in_err-scan.ensures.requested

pub returns-clause-asked : goal.returns-clause-asked
returns-clause-asked c =
    record {
      scan = c.in_ok-scan.scan;
      asked = c.asks.new.hand;
      requested = c.in_ok-scan.ensures.requested;
      ran = c.runs_out.ensures.ran;
      went_on = c.runs_out.ensures.steps;
    }
