use Rattle.start_laws.proofs.Putting.{requests-told}
use Rattle.start_laws.proofs.homes.requests_are_told.Goals as goal

pub returns : goal.returns
returns c = requests-told
