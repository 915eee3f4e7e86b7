use Rattle.count_scope.proofs.Lasting.{started-is_empty, left-is_empty, associated-is_used, closed-stays}
use Rattle.count_scope.proofs.laws.scopes_stay_so.Goals as goal

pub returns-clause-started : goal.returns-clause-started
returns-clause-started g c = started-is_empty g.P.Cargo

pub returns-clause-left : goal.returns-clause-left
returns-clause-left g c = left-is_empty g.P.Cargo

pub returns-clause-used : goal.returns-clause-used
returns-clause-used g c = associated-is_used g.P.Cargo

pub returns-clause-closed : goal.returns-clause-closed
returns-clause-closed g c = closed-stays g.P.Cargo
