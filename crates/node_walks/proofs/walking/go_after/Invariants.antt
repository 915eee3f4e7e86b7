use Rattle.table_steps.specs.Views.{Stays}
use Rattle.exec_recv.specs.Asides.{KeepsAside}
use Rattle.node_walks.specs.Stepped.{WasStepped}
use Rattle.node_walks.proofs.Walked.{Leads}
use Rattle.node_walks.proofs.walking.go_after.Given as goal

abbrev pub invariant-loop : goal.invariant-loop
invariant-loop g l = record {
  next : (goal.iterator-loop g).can_next l.iterator';
  finite : (goal.iterator-loop g).is_finite l.iterator';
  stays : Stays l.site l.fn.hand l.hand;
  after : WasStepped l.site l.last l.ended l.hand.me;
  aside : KeepsAside l.fn.hand.me l.hand.me;
  walks : Leads g.M.Mail.hears g.T.Stepper.does l.site l.fn.name l.fn.next l.fn.hand.me l.fn.mail l.last l.ended l.hand.me l.mail;
  mail : g.M.Mail.keeps l.fn.mail l.mail;
}
