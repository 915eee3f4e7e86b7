use Rattle.std.proofs.Common.{ap, ◌∙◌}
use Rattle.spawn_future.specs.Slots.{kept_in}
use Rattle.spawn_future.proofs.Slotted.{kept-most}
use Rattle.spawn_future.proofs.futures.Futures.kept.Goals as goal

pub returns-clause-count : goal.returns-clause-count
returns-clause-count c = c.self.invariant.count ∙ ap kept_in c.self.view_is

pub returns-clause-few : goal.returns-clause-few
returns-clause-few c = kept-most c.self.inside.slots.items c.self.inside.kept c.self.invariant
