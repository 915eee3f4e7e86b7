use Rattle.pool_backends.proofs.Playing.{once}
use Rattle.pool_backends.proofs.law.names_go_out_once.Goals as goal

pub returns : goal.returns
returns c = once
