use Rattle.std.proofs.Common.{◌≡◌, ◌*◌, ◌≤◌, ℕ, length}
use Rattle.life_rules.specs.declared.limits.TheConstants.{MOST_BLOCKS}
use Rattle.plan_shape.specs.declared.limits.TheConstants.{MOST_PLAN_NODES}
use Rattle.table_steps.specs.Views.{Stays}
use Rattle.exec_recv.specs.Sites.{plan_at}
use Rattle.spawn_future.specs.Keeping.{IsKeeping}
use Rattle.spawn_future.specs.Turns.{AreUnparked, AreVisited, Turns}
use Rattle.spawn_future.proofs.futures.Futures.turn.Given as goal

abbrev pub invariant-loop-node : goal.invariant-loop-node
invariant-loop-node g l = record {
  all : l.node-end ≡ length (plan_at l.site).nodes;
  most : l.node-end ≤ MOST_PLAN_NODES;
  within : l.node ≤ l.node-end;
  few : l.taken ≤ l.node * MOST_BLOCKS;
  keeping : IsKeeping l.site l.self l.hand;
  stays : Stays l.site l.fn.hand l.hand;
  mail : g.M.Mail.keeps l.fn.mail l.mail;
  turns : Turns l.site (plan_at l.site) l.fn.self l.self l.fn.hand l.hand l.taken;
  none : l.taken ≡ 0 → AreUnparked l.site (plan_at l.site) l.node l.fn.hand.me l.hand.me;
  visited : AreVisited l.site (plan_at l.site) l.node l.fn.hand.me l.hand.me;
}
