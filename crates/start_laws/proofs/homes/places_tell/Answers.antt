use Rattle.start_laws.proofs.Knowing.{places-tell}
use Rattle.start_laws.proofs.homes.places_tell.Goals as goal

pub returns : goal.returns
returns c = places-tell
