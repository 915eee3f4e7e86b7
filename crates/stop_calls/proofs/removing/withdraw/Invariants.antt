use Rattle.std.specs.Prelude.{ℕ}
use Rattle.table_steps.specs.Views.{Stays}
use Rattle.stop_calls.specs.Removals.{MayWithdraw, Waits}
use Rattle.stop_calls.proofs.removing.withdraw.Given as goal

abbrev pub invariant-loop : goal.invariant-loop
invariant-loop g l = record {
  next : (goal.iterator-loop g).can_next l.iterator';
  finite : (goal.iterator-loop g).is_finite l.iterator';
  stays : Stays l.table l.fn.hand l.hand;
  may : MayWithdraw l.hand.me.0 l.node;
  waited : (count : ℕ) × Waits l.table l.node count l.fn.hand l.hand;
}
