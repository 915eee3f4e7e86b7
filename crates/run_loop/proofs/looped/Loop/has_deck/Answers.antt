use Rattle.std.proofs.Common.{rules}
use Rattle.run_loop.proofs.looped.Loop.has_deck.Goals as goal

pub returns : goal.returns
returns c = search rules
