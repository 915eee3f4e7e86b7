use Rattle.std.proofs.Common.{inl, inr, sym, ◌∙◌, subst}
use Rattle.table_use.specs.Asking.{RemovesInside}
use Rattle.table_use.proofs.Roots.{still-root}
use Rattle.table_use.proofs.ScopeScans.{asks-others}
use Rattle.table_use.proofs.hearing.removes_inside.Goals as goal

pub removes_next-found-requires-clause-holds : goal.removes_next-found-requires-clause-holds
removes_next-found-requires-clause-holds c =
    still-root c.args.table.now c.args.root c.args.hand.now.me c.asks.new.hand.me _ c.asks.ensures.holds c.requires.holds

pub runs_out-left-requires-clause-scans : goal.runs_out-left-requires-clause-scans
runs_out-left-requires-clause-scans c = c.removes_next-found.ensures.scan.makes

pub returns-clause-idle : goal.returns-clause-idle
returns-clause-idle c =
    let asks = c.removes_next-found.ensures.scan in
    record {
      runs = c.runs_out-left.ensures.runs ∙ asks.runs;
      scans = c.runs_out-left.ensures.scans ∙ asks-others c.args.table.now c.removes_next-found.new.scan c.removes_next-found.new.hand.me asks;
    }

pub returns-in_err-scan-clause-removed : goal.returns-in_err-scan-clause-removed
returns-in_err-scan-clause-removed c =
    subst (λ r. RemovesInside c.args.table.now c.args.root r c.args.hand.now c.asks.new.hand) (sym c.from_residual.ensures)
    (inl c.in_err-scan.ensures.requested)

pub returns-in_err-found-clause-removed : goal.returns-in_err-found-clause-removed
returns-in_err-found-clause-removed c =
    subst (λ r. RemovesInside c.args.table.now c.args.root r c.args.hand.now c.runs_out-left.new.hand)
    (sym c.from_residual-in_err-found.ensures)
    (inr (
      c.runs_out-left.result,
      record {
        scan = c.in_ok-scan.scan;
        asked = c.asks.new.hand;
        requested = c.in_ok-scan.ensures.requested;
        after = c.removes_next-found.new.scan;
        left = c.removes_next-found.new.hand;
        next = c.in_err-found.ensures.removed;
        ran = c.runs_out-left.ensures.ran;
        went_on = c.runs_out-left.ensures.steps;
      },
    ))

pub returns-clause-removed : goal.returns-clause-removed
returns-clause-removed c =
    record {
      scan = c.in_ok-scan.scan;
      asked = c.asks.new.hand;
      requested = c.in_ok-scan.ensures.requested;
      after = c.removes_next-found.new.scan;
      left = c.removes_next-found.new.hand;
      next = c.in_ok-found.ensures.removed;
      ran = c.runs_out-left.ensures.ran;
      went_on = c.runs_out-left.ensures.steps;
    }
