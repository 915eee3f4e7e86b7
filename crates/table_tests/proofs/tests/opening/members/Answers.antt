use Rattle.std.proofs.lemmas.Result.{IfOk-weaker}
use Rattle.table_tests.proofs.Ready.{fresh-members}
use Rattle.table_tests.proofs.tests.opening.members.Goals as goal

pub returns : goal.returns
returns c = IfOk-weaker c.opened.result _ _ (λ t. fresh-members t.0 c.args.hands t.1.items) c.opened.ensures.hands
