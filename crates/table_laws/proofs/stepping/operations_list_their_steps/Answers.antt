use Rattle.table_laws.proofs.stepping.operations_list_their_steps.Goals as goal
use Rattle.table_laws.proofs.CallLists.{nodes-list}

pub returns : goal.returns
returns g c = nodes-list g.P.Cargo
