use Rattle.start_laws.proofs.Putting.{homes-fit}
use Rattle.start_laws.proofs.homes.homes_fit.Goals as goal

pub returns : goal.returns
returns c = homes-fit
