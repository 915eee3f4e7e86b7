use Rattle.join_laws.proofs.JoinLaws.{parts_join}
use Rattle.join_laws.proofs.lawful_parts_join.Goals as goal

pub returns : goal.returns
returns g c = λ plan window cut. parts_join g.O.Operations.WantsMemory plan window cut
