use Rattle.std.proofs.Common.{◌≡◌, false}
use Rattle.table_steps.specs.Views.{Stays}
use Rattle.node_walks.specs.Resting.{IsAtRest}
use Rattle.node_walks.specs.Since.{OnlyLooks}
use Rattle.steal_pool.specs.Works.{AreIdle, UnlessFound}
use Rattle.deck_relay.specs.Desks.{KeepsDesk}
use Rattle.steal_pool.proofs.searching.search_block.Given as goal

abbrev pub invariant-loop-node : goal.invariant-loop-node
invariant-loop-node g l = record {
  stays : Stays l.site l.fn.hand l.hand;
  rests : IsAtRest l.hand.me.0;
  looks : OnlyLooks l.fn.hand.me l.hand.me;
  none : UnlessFound l.fn.found l.found (AreIdle l.site l.fn.hand.me l.hand.me l.block l.node);
  still : l.submits ≡ false → l.found ≡ l.fn.found;
  desk : KeepsDesk l.fn.offers.desk l.offers.desk;
}
