use Rattle.std.proofs.Common.{codes}
use Rattle.join_commands.specs.Notes.{front_text}
use Rattle.join_commands.proofs.NoteLaws.{one}
use Rattle.join_commands.proofs.refusal.put_said.Goals as goal

pub returns : goal.returns
returns g c = one (codes ".status: the status is ") (codes ", and not 0, 1 or 4\n") c.front_text-front.result.now (front_text c.args.said.now) c.front_text-front.ensures c.put_pieces.ensures
