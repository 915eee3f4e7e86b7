use Rattle.plan_laws.proofs.stops.may_covers.Goals as goal
use Rattle.plan_laws.proofs.Covers.{may-covers}

pub returns : goal.returns
returns c = may-covers
