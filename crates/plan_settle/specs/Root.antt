-- What a plan settles to for one record.
use Rattle.std.specs.Prelude.{ℕ, ◌-◌, Bool, [], ◌∷◌, length}
use Rattle.exec_value.specs.declared.data.Datum.{Datum}
use Rattle.exec_value.specs.declared.outcome.Completion.{Completion}
use Rattle.plan_rules.specs.Settle.{settle_of}
use Rattle.plan_shape.specs.Blueprint.{Blueprint}

-- the root, which is the last node, under the record's datum alone
abbrev pub settled_root : Blueprint → Datum → ℕ → Bool → Completion
settled_root plan datum r asked = settle_of plan.nodes (length plan.nodes - 1) (datum ∷ []) r asked
