use Rattle.std.proofs.Common.{rules}
use Rattle.run_loop.proofs.looped.Loop.into_parts.Goals as goal

pub returns-clause-deck : goal.returns-clause-deck
returns-clause-deck c = search rules
