-- What an element job makes of a number at an index. Arithmetic is on whole numbers.
use Rattle.std.specs.Prelude.{ℕ, ℤ, pos, ◌+ℤ◌, ◌-ℤ◌, ◌*ℤ◌, neg_ℤ, int_div, int_le, ◌&&◌, if◌then◌else◌, Result, Ok, Err}
use Rattle.std.specs.Ordering.{int_eq}
use Rattle.exec_value.specs.Number.{is_i64}
use Rattle.exec_job.specs.declared.fault.JobFault.{JobFault}
use Rattle.exec_job.specs.declared.fault.JobFault.TheVariants.{Overflow, ZeroDivisor, OutOfRange}
use Rattle.exec_job.specs.declared.job.Job.{Job}
use Rattle.exec_job.specs.declared.job.Job.TheVariants.{Add, Sub, Mul, Div, Neg, Within, Index}

-- a whole number, where an i64 holds it
abbrev pub fitting : ℤ → Result ℤ JobFault
fitting n = if is_i64 n then Ok n else Err Overflow

-- x / n, cut towards zero
abbrev pub quotient : ℤ → ℤ → Result ℤ JobFault
quotient x n = if int_eq n (pos 0) then Err ZeroDivisor else fitting (int_div x n)

-- x, where it is from lo to hi
abbrev pub within : ℤ → ℤ → ℤ → Result ℤ JobFault
within lo hi x = if int_le lo x && int_le x hi then Ok x else Err OutOfRange

-- the job on the number x at this index; one that is no element job leaves x as it is
abbrev pub at_index : Job → ℕ → ℤ → Result ℤ JobFault
at_index (Add n) index x = fitting (x +ℤ n)
at_index (Sub n) index x = fitting (x -ℤ n)
at_index (Mul n) index x = fitting (x *ℤ n)
at_index (Div n) index x = quotient x n
at_index Neg index x = fitting (neg_ℤ x)
at_index (Within lo hi) index x = within lo hi x
at_index Index index x = fitting (x +ℤ pos index)
at_index job index x = Ok x
