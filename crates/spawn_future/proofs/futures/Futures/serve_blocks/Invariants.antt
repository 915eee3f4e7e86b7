use Rattle.std.proofs.Common.{◌≡◌, ◌<◌, ◌≤◌, ℕ}
use Rattle.life_rules.specs.declared.limits.TheConstants.{MOST_BLOCKS}
use Rattle.table_steps.specs.Views.{Stays}
use Rattle.exec_recv.specs.Sites.{plan_at}
use Rattle.spawn_future.specs.Keeping.{IsKeeping}
use Rattle.spawn_future.specs.Turns.{IsVisitedBelow, Turns, WasUnparked}
use Rattle.spawn_future.proofs.futures.Futures.serve_blocks.Given as goal

abbrev pub invariant-loop-block : goal.invariant-loop-block
invariant-loop-block g l = record {
  all : l.block-end ≡ l.site.frame.layout.blocks;
  most : l.block-end ≤ MOST_BLOCKS;
  within : l.block ≤ l.block-end;
  few : l.taken ≤ l.block;
  keeping : IsKeeping l.site l.self l.hand;
  stays : Stays l.site l.fn.hand l.hand;
  mail : g.M.Mail.keeps l.fn.mail l.mail;
  turns : Turns l.site (plan_at l.site) l.fn.self l.self l.fn.hand l.hand l.taken;
  none : l.taken ≡ 0 → (b : ℕ) → b < l.block → WasUnparked l.site b l.node l.fn.hand.me l.hand.me;
  visited : IsVisitedBelow l.site l.node l.block l.fn.hand.me l.hand.me;
}
