-- The statuses of a run.
use Rattle.std.specs.Prelude.{ℕ}
use Rattle.exec_status.specs.declared.status.Status.{Status}
use Rattle.exec_status.specs.declared.status.Status.TheVariants.{AllValues, NotAllValues, Usage, PlanRefused, NoMemory, ReadFault, WriteFault, Limit}

-- The exit code of a process that ends so.
abbrev pub code_of : Status → ℕ
code_of AllValues = 0
code_of NotAllValues = 1
code_of Usage = 2
code_of PlanRefused = 3
code_of NoMemory = 4
code_of ReadFault = 5
code_of WriteFault = 6
code_of Limit = 7
