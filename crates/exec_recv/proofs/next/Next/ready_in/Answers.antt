use Rattle.std.proofs.Common.{rules}
use Rattle.exec_recv.proofs.next.Next.ready_in.Goals as goal

pub returns-in-Pool : goal.returns-in-Pool
returns-in-Pool c = search rules
