use Rattle.home_items.proofs.Collecting.{collected-allowed}
use Rattle.home_items.proofs.law.collected_is_allowed.Goals as goal

pub returns : goal.returns
returns c = collected-allowed
