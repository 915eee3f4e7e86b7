use Rattle.start_laws.proofs.Bodies.{bodies-begin}
use Rattle.start_laws.proofs.lets.bodies_may_begin.Goals as goal

pub returns : goal.returns
returns c = bodies-begin
