-- That the bytes of lines name the outcomes.
use Rattle.std.specs.Prelude.{◌≡◌, ℕ, ℤ, ⊤, IsTrue, List, All}
use Rattle.exec_value.specs.ErrorName.{is_error_name}
use Rattle.outcome_lines.specs.Line.{text_from}
use Rattle.exec_value.specs.Number.{is_i64}
use Rattle.exec_value.specs.declared.data.Datum.{Datum}
use Rattle.exec_value.specs.declared.data.Datum.TheVariants.{Int, Text, Row, SomeInt, SomeText, Nothing}
use Rattle.exec_value.specs.declared.outcome.Completion.TheVariants.{Value, Error, Stopped, NoMemory}
use Rattle.exec_value.specs.declared.outcome.Outcome.{Outcome}
use Rattle.exec_value.specs.declared.outcome.Outcome.TheVariants.{Done, BadRecord}

-- a number of the type i64
abbrev pub IsI64 : ℤ → Type 0
IsI64 n = IsTrue (is_i64 n)

-- a datum that a program can hold
abbrev pub CanBeHeld : Datum → Type 0
CanBeHeld (Int n) = IsI64 n
CanBeHeld (Text bytes) = ⊤
CanBeHeld (Row numbers) = All IsI64 numbers
CanBeHeld (SomeInt n) = IsI64 n
CanBeHeld (SomeText bytes) = ⊤
CanBeHeld Nothing = ⊤

-- an outcome that a program can hold, and whose error has an error name
abbrev pub IsNamed : Outcome → Type 0
IsNamed (Done (Value values)) = All CanBeHeld values
IsNamed (Done (Error name)) = IsTrue (is_error_name name)
IsNamed (Done Stopped) = ⊤
IsNamed (Done NoMemory) = ⊤
IsNamed BadRecord = ⊤

-- on such outcomes the text is one to one
abbrev pub TextNamesOutcomes : Type 0
TextNamesOutcomes =
    (number : ℕ) (xs ys : List Outcome) → All IsNamed xs → All IsNamed ys →
    text_from number xs ≡ text_from number ys → xs ≡ ys
