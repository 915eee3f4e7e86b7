use Rattle.home_items.proofs.KindsBelow.{kinds-below}
use Rattle.home_items.proofs.law.kinds_go_down.Goals as goal

pub returns : goal.returns
returns c = λ e p node runnable has at seen under. kinds-below e p runnable has node at seen under
