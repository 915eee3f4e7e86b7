use Rattle.std.proofs.Common.{◌≡◌}
use Rattle.table_steps.specs.Views.{Stays}
use Rattle.node_walks.specs.Since.{OnlyLooks}
use Rattle.spawn_future.specs.Keeping.{IsKeeping}
use Rattle.spawn_future.proofs.futures.Futures.serve_place.Given as goal

abbrev pub invariant-loop : goal.invariant-loop
invariant-loop g l = record {
  next : (goal.iterator-loop g).can_next l.iterator';
  finite : (goal.iterator-loop g).is_finite l.iterator';
  stays : Stays l.site l.fn.hand l.hand;
  keeping : IsKeeping l.site l.self l.hand;
  slots : l.self ≡ l.fn.self;
  looks : OnlyLooks l.fn.hand.me l.hand.me;
  mail : g.M.Mail.keeps l.fn.mail l.mail;
}
