use Rattle.count_scope.proofs.CallLists.{calls-list}
use Rattle.count_scope.proofs.laws.scope_calls_list_their_steps.Goals as goal

pub returns : goal.returns
returns g c = calls-list _ _ _
