use Rattle.table_laws.proofs.stepping.listed_steps_are_made.Goals as goal
use Rattle.table_laws.proofs.CallLists.{listed-made}

pub returns : goal.returns
returns g c = listed-made _ _
