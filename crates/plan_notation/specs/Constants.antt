-- Constants: numbers, texts and rows, as JSON has them.
use Rattle.std.specs.Prelude.{ℕ, Bool, true, false, List, Option, Some, None, is_some, option_and_then, if◌then◌else◌}
use Rattle.serde_json.specs.Data.{Data}
use Rattle.serde_json.specs.Find.{as_array, as_str}
use Rattle.plan_parts.specs.Objects.{integer_of}
use Rattle.plan_reader.specs.Plans.{json_of}
use Rattle.plan_notation.specs.declared.constant.ConstantKind.{ConstantKind}
use Rattle.plan_notation.specs.declared.constant.ConstantKind.TheVariants as kind
use Rattle.plan_notation.specs.declared.wanted.Wanted.{Wanted}
use Rattle.plan_notation.specs.declared.wanted.Wanted.TheVariants as wanted

-- what a JSON value is as a constant; the numbers of a row are judged with the plan
abbrev pub kind_of_value : Data → Option ConstantKind
kind_of_value d =
    if is_some (integer_of d) then Some kind.Number
    else (if is_some (as_str d) then Some kind.Text
    else (if is_some (as_array d) then Some kind.Row else None))

-- what the constant with these bytes is
abbrev pub constant_kind : List ℕ → Option ConstantKind
constant_kind text = option_and_then kind_of_value (json_of text)

-- a constant is one that is wanted
abbrev pub fits : Wanted → ConstantKind → Bool
fits wanted.Number kind.Number = true
fits wanted.Text kind.Text = true
fits wanted.Scalar kind.Number = true
fits wanted.Scalar kind.Text = true
fits wanted.Constant k = true
fits w k = false
