use Rattle.step_parts.proofs.starting.go_on_apart.Goals as goal

pub go_below-requires-clause-may : goal.go_below-requires-clause-may
go_below-requires-clause-may g c = rw c.in-Some.is at c.requires.may

pub go_below-requires-clause-lies : goal.go_below-requires-clause-lies
go_below-requires-clause-lies g c = rw c.in-Some.is at c.requires.lies

pub without_memory-requires : goal.without_memory-requires
without_memory-requires g c = record { may = rw c.in-None.is at c.requires.wants }

pub returns-in-Some-clause-awaits : goal.returns-in-Some-clause-awaits
returns-in-Some-clause-awaits g c = rw c.in-Some.is c.go_below.ensures

pub returns-in-None-clause-ends : goal.returns-in-None-clause-ends
returns-in-None-clause-ends g c = rw c.in-None.is c.without_memory.ensures
