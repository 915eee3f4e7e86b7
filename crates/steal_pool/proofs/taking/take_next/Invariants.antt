use Rattle.std.proofs.Common.{◌≤◌}
use Rattle.table_steps.specs.Views.{Stays}
use Rattle.node_walks.specs.Resting.{IsAtRest}
use Rattle.node_walks.specs.Since.{OnlyLooks}
use Rattle.deck_relay.specs.Desks.{KeepsDesk}
use Rattle.steal_pool.proofs.taking.take_next.Given as goal

abbrev pub invariant-asked : goal.invariant-asked
invariant-asked g l = record {
  stays : Stays l.site l.fn.hand l.hand;
  rests : IsAtRest l.hand.me.0;
  looks : OnlyLooks l.fn.hand.me l.hand.me;
  most : l.asks ≤ l.fn.asks;
  desk : KeepsDesk l.fn.offers.desk l.offers.desk;
}

abbrev pub decreases-asked : goal.decreases-asked
decreases-asked g l = l.asks
