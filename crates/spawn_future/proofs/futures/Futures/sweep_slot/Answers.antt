use Rattle.std.proofs.Common.{sym, ◌∙◌}
use Rattle.spawn_future.proofs.Slotted.{abandoned-has}
use Rattle.spawn_future.proofs.futures.Futures.sweep_slot.Goals as goal

pub end-requires-clause-has : goal.end-requires-clause-has
end-requires-clause-has g c =
    let found = abandoned-has c.args.self.now c.args.slot c.in-Some.block (sym c.abandoned_at.ensures ∙ c.in-Some.is) in
    record { future = found.0; has = found.1; block_is = found.3 }
