use Rattle.start_laws.proofs.Bodies.{bodies-allowed}
use Rattle.start_laws.proofs.lets.bodies_are_allowed.Goals as goal

pub returns : goal.returns
returns c = bodies-allowed
