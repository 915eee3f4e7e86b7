-- Of which kinds data are.
use Rattle.std.specs.Prelude.{⊤, List}
use Rattle.std.specs.List.{AllZip}
use Rattle.exec_value.specs.declared.kinds.Kind.{Kind}
use Rattle.exec_value.specs.declared.kinds.Kind.TheVariants.{Int as IntKind, Text as TextKind, Row as RowKind, MaybeInt, MaybeText}
use Rattle.exec_value.specs.declared.data.Datum.{Datum}
use Rattle.exec_value.specs.declared.data.Datum.TheVariants.{Int, Text, Row, SomeInt, SomeText, Nothing}

-- a datum is of a kind; `Nothing` is of both maybe kinds
abbrev pub HasKind : Datum → Kind → Type 0
HasKind (Int n) IntKind = ⊤
HasKind (Text bytes) TextKind = ⊤
HasKind (Row numbers) RowKind = ⊤
HasKind (SomeInt n) MaybeInt = ⊤
HasKind (SomeText bytes) MaybeText = ⊤
HasKind Nothing MaybeInt = ⊤
HasKind Nothing MaybeText = ⊤
HasKind datum kind = ⊥

-- data are of these kinds, one by one
abbrev pub HaveKinds : List Datum → List Kind → Type 0
HaveKinds = AllZip HasKind

-- a constant of a plan is an int, a text or a row
abbrev pub IsConstant : Datum → Type 0
IsConstant (Int n) = ⊤
IsConstant (Text bytes) = ⊤
IsConstant (Row numbers) = ⊤
IsConstant datum = ⊥

-- the kind of a datum; `Nothing` counts as a missing number
abbrev pub kind_of : Datum → Kind
kind_of (Int n) = IntKind
kind_of (Text bytes) = TextKind
kind_of (Row numbers) = RowKind
kind_of (SomeInt n) = MaybeInt
kind_of (SomeText bytes) = MaybeText
kind_of Nothing = MaybeInt
