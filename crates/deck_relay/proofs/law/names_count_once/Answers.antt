use Rattle.deck_relay.proofs.Effects.{own-is-once, shared-is-once, taken-is-once, stolen-is-once, nothing-is-moved}
use Rattle.deck_relay.proofs.law.names_count_once.Goals as goal

pub returns-clause-own : goal.returns-clause-own
returns-clause-own c = own-is-once

pub returns-clause-shared : goal.returns-clause-shared
returns-clause-shared c = shared-is-once

pub returns-clause-taken : goal.returns-clause-taken
returns-clause-taken c = taken-is-once

pub returns-clause-stolen : goal.returns-clause-stolen
returns-clause-stolen c = stolen-is-once

pub returns-clause-nothing : goal.returns-clause-nothing
returns-clause-nothing c = nothing-is-moved
