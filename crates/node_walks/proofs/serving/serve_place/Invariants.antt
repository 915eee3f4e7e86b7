use Rattle.std.proofs.Common.{◌≡◌}
use Rattle.table_steps.specs.Views.{Stays}
use Rattle.node_walks.specs.Resting.{IsAtRest}
use Rattle.node_walks.specs.Since.{OnlyLooks}
use Rattle.node_walks.proofs.serving.serve_place.Given as goal

abbrev pub invariant-loop : goal.invariant-loop
invariant-loop g l = record {
  next : (goal.iterator-loop g).can_next l.iterator';
  finite : (goal.iterator-loop g).is_finite l.iterator';
  stays : Stays l.site l.fn.hand l.hand;
  rests : IsAtRest l.hand.me.0;
  looks : OnlyLooks l.fn.hand.me l.hand.me;
  mail : g.M.Mail.keeps l.fn.mail l.mail;
  unheard : l.mail ≡ l.fn.mail;
}
