use Rattle.pool_backends.proofs.Playing.{in-order}
use Rattle.pool_backends.proofs.law.first_come_first_out.Goals as goal

pub returns : goal.returns
returns c = in-order
