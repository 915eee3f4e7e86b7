use Rattle.spawn_future.proofs.Fresh.{fresh-slots, fresh-opened}
use Rattle.spawn_future.proofs.futures.Futures.open.Goals as goal

pub invariant_of-result : goal.invariant_of-result
invariant_of-result c =
    fresh-slots c.args.most c.in_ok-slots.slots.items c.in_ok-slots.ensures c.requires.some c.requires.few

pub returns : goal.returns
returns c = fresh-opened c.args.most c.in_ok-slots.slots.items c.in_ok-slots.ensures
