use Rattle.std.proofs.Common.{ap, sym}
use Rattle.trace_text.specs.Kinds.{block_name}
use Rattle.trace_text.proofs.kinds.BlockKind.name.Goals as goal

pub returns-in-Claim : goal.returns-in-Claim
returns-in-Claim c = sym (ap block_name c.in-Claim.is)

pub returns-in-Release : goal.returns-in-Release
returns-in-Release c = sym (ap block_name c.in-Release.is)

pub returns-in-Skip : goal.returns-in-Skip
returns-in-Skip c = sym (ap block_name c.in-Skip.is)
