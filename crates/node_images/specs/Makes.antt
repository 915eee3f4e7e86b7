-- Calls that make one completion.
use Rattle.std.specs.Prelude.{◌≡◌, ◌≤◌, ⊤, length, Result, IsOk, OnOk}
use Rattle.std.specs.declared.alloc.AllocError.{AllocError}
use Rattle.exec_value.specs.Place.{AreInPlace}
use Rattle.exec_value.specs.declared.limits.TheConstants.{INLINE_BYTES}
use Rattle.exec_value.specs.declared.outcome.Completion.{Completion}
use Rattle.exec_value.specs.declared.outcome.Completion.TheVariants.{Value, Error, Stopped, NoMemory}

-- a completion stands in place, so that making it wants no memory
abbrev pub CompletesInPlace : Completion → Type 0
CompletesInPlace (Value values) = AreInPlace values
CompletesInPlace (Error name) = length name ≤ INLINE_BYTES
CompletesInPlace Stopped = ⊤
CompletesInPlace NoMemory = ⊤

-- a call makes this completion, and finds no memory only where that doesn't stand in place
pub record Makes (c made : Completion) (result : Result (Unit {0}) AllocError) : Type 0 where
  pub exact : OnOk result (made ≡ c)
  pub in_place : CompletesInPlace c → IsOk result
