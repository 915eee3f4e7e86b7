use Rattle.std.proofs.Common.{rules}
use Rattle.step_parts.proofs.wanting.want_memory.Goals as goal

pub complete-requires : goal.complete-requires
complete-requires g c = search rules

pub returns : goal.returns
returns g c = search rules
