use Rattle.join_laws.proofs.CutLaws.{may_be_cut}
use Rattle.join_laws.proofs.plans_may_be_cut.Goals as goal

pub returns : goal.returns
returns c = may_be_cut
