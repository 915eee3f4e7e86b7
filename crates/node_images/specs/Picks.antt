-- Which body of a let a pick names.
use Rattle.std.specs.Prelude.{ℕ, List, [], ◌∷◌, Option, Some, None}
use Rattle.exec_value.specs.declared.data.Datum.TheVariants.{Int}
use Rattle.exec_value.specs.declared.outcome.Completion.{Completion}
use Rattle.exec_value.specs.declared.outcome.Completion.TheVariants.{Value}
use Rattle.plan_rules.specs.Allowed.{body_at}

-- the body that an answer names, where that is one int
abbrev pub picked_body : Completion → List ℕ → Option ℕ
picked_body (Value (Int k ∷ [])) bodies = Some (body_at bodies k)
picked_body c bodies = None
