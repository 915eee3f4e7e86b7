use Rattle.life_rules.specs.Scopes.{scope_state}
use Rattle.table_use.proofs.Associating.{ready-reads}
use Rattle.table_use.proofs.members.look.Goals as goal

pub returns-clause-ready : goal.returns-clause-ready
returns-clause-ready c =
    ready-reads c.args.table.now c.args.hand.now c.state.new.hand c.state.ensures.stays.hand scope_state c.state.result c.requires c.state.ensures.read

pub returns-clause-read : goal.returns-clause-read
returns-clause-read c = c.state.ensures.read
