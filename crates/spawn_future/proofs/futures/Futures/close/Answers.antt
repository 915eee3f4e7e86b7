use Rattle.std.proofs.Common.{ap, ◌∙◌}
use Rattle.spawn_future.specs.Slots.{kept_in}
use Rattle.spawn_future.proofs.Fresh.{none-kept}
use Rattle.spawn_future.proofs.futures.Futures.close.Goals as goal

pub discard-requires : goal.discard-requires
discard-requires c = none-kept c.self.inside.slots.items (ap kept_in c.self.view_is ∙ c.requires)
