-- How the children of a `when_all` are joined, one after the other.
use Rattle.std.specs.Prelude.{◌≡◌, ℕ, ◌<◌, length, Result, Ok, Err}
use Rattle.exec_value.specs.declared.limits.TheConstants.{DATA, INLINE_DATA}
use Rattle.exec_value.specs.declared.outcome.Completion.{Completion}
use Rattle.exec_value.specs.declared.outcome.Completion.TheVariants.{Value}
use Rattle.node_images.specs.declared.join.NoRoom.{NoRoom}
use Rattle.node_images.specs.declared.join.NoRoom.TheVariants.{Memory, Limit}

-- a value of more than so many data
abbrev pub HasMoreThan : ℕ → Completion → Type 0
HasMoreThan n (Value values) = n < length values
HasMoreThan n c = ⊥

-- what the children so far complete with together: this, or values for which there is no room
abbrev pub Tells : Result Completion NoRoom → Completion → Type 0
Tells (Ok d) c = d ≡ c
Tells (Err Memory) c = HasMoreThan INLINE_DATA c
Tells (Err Limit) c = HasMoreThan DATA c
