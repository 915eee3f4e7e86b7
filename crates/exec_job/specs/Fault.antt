-- What an operation that fails is called.
use Rattle.std.specs.Prelude.{ℕ, List, codes}
use Rattle.exec_job.specs.declared.fault.JobFault.{JobFault}
use Rattle.exec_job.specs.declared.fault.JobFault.TheVariants.{Overflow, ZeroDivisor, OutOfRange}

-- the name of the error
abbrev pub name_of : JobFault → List ℕ
name_of Overflow = codes "overflow"
name_of ZeroDivisor = codes "zero-divisor"
name_of OutOfRange = codes "out-of-range"
