use Rattle.std.proofs.Common.{◌≡◌, false}
use Rattle.table_steps.specs.Views.{Stays}
use Rattle.node_walks.specs.Resting.{IsAtRest}
use Rattle.node_walks.specs.Since.{OnlyLooks}
use Rattle.steal_pool.specs.Works.{AreIdleBelow, UnlessFound}
use Rattle.deck_relay.specs.Desks.{KeepsDesk}
use Rattle.steal_pool.proofs.searching.search.Given as goal

abbrev pub invariant-loop-block : goal.invariant-loop-block
invariant-loop-block g l = record {
  stays : Stays l.site l.fn.hand l.hand;
  rests : IsAtRest l.hand.me.0;
  looks : OnlyLooks l.fn.hand.me l.hand.me;
  none : UnlessFound l.fn.found l.found (AreIdleBelow l.site l.fn.hand.me l.hand.me l.block);
  still : l.submits ≡ false → l.found ≡ l.fn.found;
  desk : KeepsDesk l.fn.offers.desk l.offers.desk;
}
