use Rattle.join_laws.proofs.DealtRunLaws.{dealt_runs_join}
use Rattle.join_laws.proofs.dealt_runs_join.Goals as goal

pub returns : goal.returns
returns g c = λ plan window cut. dealt_runs_join g.O.Operations.WantsMemory plan window cut
