use Rattle.std.proofs.Common.{◌∙◌, ap, arith}
use Rattle.crossbeam_deque.specs.Handles.{worker_view}
use Rattle.deck_relay.specs.declared.stealing.TheConstants.{MOST_STOLEN}
use Rattle.deck_relay.specs.Rule.{giving, taking}
use Rattle.deck_relay.specs.Decks.{theft_view}
use Rattle.deck_relay.proofs.Balances.{takes-batch, gives, finds-few, popped, in-order}
use Rattle.deck_relay.proofs.stealing.steal.Goals as goal

pub steal_batch_and_pop_as-requires-clause-takes : goal.steal_batch_and_pop_as-requires-clause-takes
steal_batch_and_pop_as-requires-clause-takes c = takes-batch MOST_STOLEN _ _ (omega (arith, c.args.theft.now.part))

pub steal_batch_and_pop_as-requires-clause-empty : goal.steal_batch_and_pop_as-requires-clause-empty
steal_batch_and_pop_as-requires-clause-empty c = finds-few _ _ _ (omega (arith, c.args.theft.now.first_in))

pub steal_batch_and_pop_as-requires-clause-pushes : goal.steal_batch_and_pop_as-requires-clause-pushes
steal_batch_and_pop_as-requires-clause-pushes c = λ name more w took. gives _ _ _ c.requires.part

pub returns-in-Success-clause-stolen : goal.returns-in-Success-clause-stolen
returns-in-Success-clause-stolen c =
    let first = c.args.theft.now.first_in in
    let by = c.in-Success.ensures.rules in
    let name = c.in-Success.name in
    record {
      more = by.0;
      few = by.1;
      took = by.2 ∙ ap (taking (theft_view c.args.theft.now)) (popped _ name by.0 first);
      own = by.3 ∙ ap (giving (worker_view c.args.own.now)) (in-order _ _ by.0 first c.requires.first_in);
    }
