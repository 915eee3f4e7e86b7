-- That the bound on the levels of a walk is none on plan files.
use Rattle.std.specs.Prelude.{◌≡◌, ◌≤◌, ℕ, List, Some, codes}
use Rattle.serde_json.specs.Data.{Data}
use Rattle.plan_reader.specs.Plans.{is_first_version, json_of, walked_of}
use Rattle.plan_reader.specs.Walked.{at_start, child_at, walk}
use Rattle.plan_reader.specs.declared.plan.TheConstants.{MOST_LEVELS}

-- of bytes that are JSON, a walk of more levels finds the same
abbrev pub LevelsSuffice : Type 0
LevelsSuffice =
    (bytes : List ℕ) (d : Data) (levels : ℕ) → json_of bytes ≡ Some d → MOST_LEVELS ≤ levels
    → child_at (walk levels) (codes "root") d (at_start (is_first_version d)) ≡ walked_of d
