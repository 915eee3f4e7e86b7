use Rattle.table_steps.specs.Views.{IsSameHand}
use Rattle.exec_recv.specs.Asides.{KeepsAside}
use Rattle.deck_relay.specs.Desks.{KeepsDesk}
use Rattle.steal_pool.specs.Works.{IsReady}
use Rattle.steal_pool.proofs.worker.Worker.serve.Given as goal

abbrev pub invariant-loop : goal.invariant-loop
invariant-loop g l = record {
  next : (goal.iterator-loop g).can_next l.iterator';
  finite : (goal.iterator-loop g).is_finite l.iterator';
  ready : IsReady l.site l.self.hand;
  same : IsSameHand l.fn.self.hand l.self.hand;
  aside : KeepsAside l.fn.self.hand.me l.self.hand.me;
  desk : KeepsDesk l.fn.self.offers.desk l.self.offers.desk;
}
