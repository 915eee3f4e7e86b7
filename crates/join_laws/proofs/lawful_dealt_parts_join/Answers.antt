use Rattle.join_laws.proofs.DealtLaws.{dealt_parts_join}
use Rattle.join_laws.proofs.lawful_dealt_parts_join.Goals as goal

pub returns : goal.returns
returns g c = λ plan window cut. dealt_parts_join g.O.Operations.WantsMemory plan window cut
