use Rattle.std.proofs.lemmas.Grind.{common_steps}
use Rattle.std.proofs.Common.{rules, arith}
use Rattle.exec_io.proofs.mem_shelf.MemShelfShelf.read.Goals as goal

pub returns-then-is_err-clause-asks : goal.returns-then-is_err-clause-asks
returns-then-is_err-clause-asks c = search rules

pub returns-then-is_err-clause-after_failed : goal.returns-then-is_err-clause-after_failed
returns-then-is_err-clause-after_failed c = search rules

pub returns-in-None-clause-asks : goal.returns-in-None-clause-asks
returns-in-None-clause-asks c = search rules

pub returns-in-None-clause-after_failed : goal.returns-in-None-clause-after_failed
returns-in-None-clause-after_failed c = search rules

pub returns-in-Some-clause-asks : goal.returns-in-Some-clause-asks
returns-in-Some-clause-asks c = search rules

pub returns-in-Some-clause-after_ok : goal.returns-in-Some-clause-after_ok
returns-in-Some-clause-after_ok c = search rules

pub returns-in-Some-clause-after_no_memory : goal.returns-in-Some-clause-after_no_memory
returns-in-Some-clause-after_no_memory c = search rules

pub returns-in-Some-clause-text : goal.returns-in-Some-clause-text
returns-in-Some-clause-text c = grind (arith, common_steps)
