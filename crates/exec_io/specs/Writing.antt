-- What a call does to a sink that it is to write some bytes to.
use Rattle.std.specs.Prelude.{ℕ, ◌≤◌, List, length, take, Option, Result, OnOk}
use Rattle.exec_io.specs.declared.fault.Failed.{Failed}
use Rattle.exec_io.specs.Causes.{HasCause}
use Rattle.exec_io.specs.Sinks.{Appends, AddsAtMost}
use Rattle.exec_io.specs.Views.{SinkView}

-- What is told afterwards was told before, and has grown by a front of these bytes.
pub record AppendsFront (old new : Option (List ℕ)) (bytes : List ℕ) : Type 0 where
  pub count : ℕ
  pub within : count ≤ length bytes
  pub grown : Appends old new (take count bytes)

-- A call wrote these bytes, or failed with cause and wrote a front of them.
pub record Puts (old new : SinkView) (result : Result (Unit {0}) Failed) (bytes : List ℕ)
    : Type 0 where
  pub ok : OnOk result (Appends old.written new.written bytes)
  pub part : AppendsFront old.written new.written bytes
  pub held : AddsAtMost old.outstanding new.outstanding (length bytes)
  pub cause : HasCause old.faults new.faults result
