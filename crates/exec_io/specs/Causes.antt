-- When a call may answer that something outside failed.
use Rattle.std.specs.Prelude.{◌≡◌, ℕ, ◌+◌, ◌-◌, ◌^◌, ◌≤◌, min, Result, IsErrOf, OnOk, OnErr}
use Rattle.exec_io.specs.declared.fault.ShelfFault.{ShelfFault}
use Rattle.exec_io.specs.declared.fault.ShelfFault.TheVariants.{Failed, NoMemory}

-- A count of faults has risen, or stands at the last value of its type.
abbrev pub Rose : ℕ → ℕ → Type 0
Rose before now = min (before + 1) (2 ^ 64 - 1) ≤ now

-- A call fails only where the count rose in it, and otherwise leaves the count as it was.
pub record HasCause {T E : Type 0} (before now : ℕ) (result : Result T E) : Type 0 where
  pub later : before ≤ now
  pub failed : OnErr result (Rose before now)
  pub still : OnOk result (now ≡ before)

-- A shelf fails only where its count rose in the call, and otherwise leaves the count as it was.
pub record HasShelfCause {T : Type 0} (before now : ℕ) (result : Result T ShelfFault) : Type 0 where
  pub later : before ≤ now
  pub failed : IsErrOf result Failed → Rose before now
  pub no_memory : IsErrOf result NoMemory → now ≡ before
  pub still : OnOk result (now ≡ before)
