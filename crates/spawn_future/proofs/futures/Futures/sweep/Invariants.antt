use Rattle.std.proofs.Common.{◌≡◌, ◌≤◌, length}
use Rattle.table_steps.specs.Views.{IsSameHand}
use Rattle.spawn_future.specs.declared.limits.TheConstants.{MOST_FUTURES}
use Rattle.spawn_future.specs.Keeping.{IsKeeping}
use Rattle.spawn_future.specs.Sweeps.{SweepsFirst, SweepsTo}
use Rattle.spawn_future.proofs.futures.Futures.sweep.Given as goal

abbrev pub invariant-loop-slot : goal.invariant-loop-slot
invariant-loop-slot g l = record {
  count : length l.fn.self ≡ l.slot-end;
  few : length l.fn.self ≤ MOST_FUTURES;
  keeping : IsKeeping l.table l.self l.hand;
  same : IsSameHand l.fn.hand l.hand;
  within : l.slot ≤ l.slot-end;
  each : SweepsFirst l.table l.slot l.fn.self l.self l.fn.hand.me l.hand.me;
  swept : SweepsTo l.table l.slot l.ended l.fn.self l.self l.fn.hand.me l.hand.me;
}
