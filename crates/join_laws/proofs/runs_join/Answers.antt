use Rattle.join_laws.proofs.RunLaws.{runs_join}
use Rattle.join_laws.proofs.runs_join.Goals as goal

pub returns : goal.returns
returns g c = λ plan window cut. runs_join g.O.Operations.WantsMemory plan window cut
