use Rattle.node_walks.proofs.serving.take_up.Goals as goal

pub returns-in-Loop-clause-taken : goal.returns-in-Loop-clause-taken
returns-in-Loop-clause-taken c = rw c.in-Loop.is c.take.ensures.taken

pub returns-in-Pool-clause-taken : goal.returns-in-Pool-clause-taken
returns-in-Pool-clause-taken c = rw c.in-Pool.is c.take-in-Pool.ensures.taken

pub returns-in-Parked-clause-taken : goal.returns-in-Parked-clause-taken
returns-in-Parked-clause-taken c = rw c.in-Parked.is c.take_parked.ensures.taken
