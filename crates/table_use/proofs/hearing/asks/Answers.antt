use Rattle.std.proofs.Common.{inl, ap, ◌∙◌}
use Rattle.stop_calls.specs.declared.scanning.Scan.{Scan}
use Rattle.table_use.proofs.Forwarding.{asked-scans}
use Rattle.table_use.proofs.Roots.{asked-again}
use Rattle.table_use.proofs.hearing.asks.Goals as goal

pub request_stop-requires-clause-source : goal.request_stop-requires-clause-source
request_stop-requires-clause-source c κs = record { spot = tt; is_one = tt }

pub request_stop-requires-clause-needs : goal.request_stop-requires-clause-needs
request_stop-requires-clause-needs c κs = inl (record { counting = c.requires.kind; number = c.requires.number })

pub returns-in-Made-clause-made : goal.returns-in-Made-clause-made
returns-in-Made-clause-made c =
    let r = c.in-Made.ensures.requested in
    record {
      makes = asked-scans c.args.table.now c.requires.tree c.args.hand.now c.request_stop.new.hand c.requires.idle c.in-Made.scan r;
      source = ap (λ (s : Scan). s.source) r.answer_is.1;
      runs = ap (λ z. z.0.runs) r.me_is ∙ c.requires.idle.runs;
    }

pub returns-in-Made-clause-holds : goal.returns-in-Made-clause-holds
returns-in-Made-clause-holds c =
    let is = c.in-Made.ensures.requested.me_is in
    record { held = ap (λ z. z.0.held) is; slots = ap (λ z. z.1) is; number = ap (λ z. z.0.number) is }

pub returns-in-Already-clause-holds : goal.returns-in-Already-clause-holds
returns-in-Already-clause-holds c =
    let is = c.in-Already.ensures.requested.me_is in
    record { held = ap (λ z. z.0.held) is; slots = ap (λ z. z.1) is; number = ap (λ z. z.0.number) is }

pub returns-in-Already-clause-none : goal.returns-in-Already-clause-none
returns-in-Already-clause-none c =
    asked-again c.args.table.now c.args.hand.now c.request_stop.new.hand c.requires.idle c.in-Already.ensures.requested

pub returns-in-Made-clause-requested : goal.returns-in-Made-clause-requested
returns-in-Made-clause-requested c = c.in-Made.ensures.requested

pub returns-in-Already-clause-requested : goal.returns-in-Already-clause-requested
returns-in-Already-clause-requested c = c.in-Already.ensures.requested
