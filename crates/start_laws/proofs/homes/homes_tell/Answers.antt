use Rattle.start_laws.proofs.Knowing.{homes-tell}
use Rattle.start_laws.proofs.homes.homes_tell.Goals as goal

pub returns : goal.returns
returns c = homes-tell
