-- Shapes: what values can be, either never a value or data of one list of kinds.
use Rattle.std.specs.Prelude.{Bool, true, List, [], ◌∷◌, ◌++◌, length, nat_le, Option, Some, None}
use Rattle.std.specs.List.{list_all}
use Rattle.std.specs.Option.{option_or}
use Rattle.exec_value.specs.Kinds.{HaveKinds}
use Rattle.exec_value.specs.declared.limits.TheConstants.{DATA}
use Rattle.exec_value.specs.declared.kinds.Kind.{Kind}
use Rattle.exec_value.specs.declared.data.Datum.{Datum}
use Rattle.plan_kinds.specs.Equal.{same_kinds}

-- never a value, or one list of kinds
abbrev pub Shape : Type 0
Shape = Option (List Kind)

-- data are of a shape
abbrev pub HasShape : List Datum → Shape → Type 0
HasShape values None = ⊥
HasShape values (Some kinds) = HaveKinds values kinds

-- one of the two is never a value, or both lists are equal
abbrev pub agrees : Shape → Shape → Bool
agrees (Some first) (Some second) = same_kinds first second
agrees first second = true

-- the one that isn't never, the first where there are more; never where all are
abbrev pub common : List Shape → Shape
common [] = None
common (shape ∷ shapes) = option_or shape (common shapes)

-- all agree: none differs from the first that isn't never
abbrev pub all_agree : List Shape → Bool
all_agree shapes = list_all (agrees (common shapes)) shapes

-- one list after another; never where one of the two is
abbrev pub appended : Shape → Shape → Shape
appended (Some first) (Some second) = Some (first ++ second)
appended first second = None

-- all lists one after another; never where one is
abbrev pub joined : List Shape → Shape
joined [] = Some []
joined (shape ∷ shapes) = appended shape (joined shapes)

-- never a value, or a list that passes the test
abbrev pub never_or : (List Kind → Bool) → Shape → Bool
never_or test None = true
never_or test (Some kinds) = test kinds

-- no more kinds than a value may have data
abbrev pub is_few : List Kind → Bool
is_few kinds = nat_le (length kinds) DATA
