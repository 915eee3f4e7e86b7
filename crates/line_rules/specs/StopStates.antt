-- Whether a request to stop reaches a record, by the lines that were written and the two rules that
-- make the request.
use Rattle.std.specs.Prelude.{ℕ, ◌+◌, Bool, true, false, List, [], ◌∷◌, length, nat_lt, nat_le, Option, Some, None, if◌then◌else◌}
use Rattle.exec_value.specs.declared.outcome.Outcome.{Outcome}
use Rattle.outcome_lines.specs.Summary.{is_error}
use Rattle.plan_rules.specs.declared.settings.Settings.{Settings}
use Rattle.plan_rules.specs.declared.stop.StopState.{StopState}
use Rattle.plan_rules.specs.declared.stop.StopState.TheVariants.{Never, May, Stands}

-- When the request is made: after this many records were read, and after the first line that is an
-- error.
pub record StopRules : Type 0 where
  pub after : Option ℕ
  pub on_error : Bool

-- The rules that a plan's settings set.
abbrev pub rules_of : Settings → StopRules
rules_of settings = record { after = settings.stop_after; on_error = settings.on_error_stop }

-- The stronger of two states.
abbrev pub stronger : StopState → StopState → StopState
stronger Never other = other
stronger May Never = May
stronger May other = other
stronger Stands _ = Stands

-- The state of a record that no request reaches, that one reaches for sure, or that stands between
-- the two.
abbrev pub state_between : Bool → Bool → StopState
state_between true _ = Never
state_between false true = Stands
state_between false false = May

-- The request after record k, where so many were read: a window before k none is made, and from k
-- on it stands.
abbrev pub state_after : Option ℕ → ℕ → ℕ → ℕ → StopState
state_after None window read number = Never
state_after (Some k) window read number =
    if nat_lt read k then Never else state_between (nat_le (number + window) k) (nat_le k number)

-- The number of the first line that is an error, where the first line has this number.
abbrev pub first_error : ℕ → List Outcome → Option ℕ
first_error number [] = None
first_error number (outcome ∷ outcomes) =
    if is_error outcome then Some number else first_error (number + 1) outcomes

-- The request after line j: up to j none is made, and a window after j it stands.
abbrev pub state_after_error : Option ℕ → ℕ → ℕ → StopState
state_after_error None window number = Never
state_after_error (Some j) window number =
    state_between (nat_le number j) (nat_le (j + window) number)

-- The request after the first line that is an error, where the rule is set.
abbrev pub state_on_error : Bool → Option ℕ → ℕ → ℕ → StopState
state_on_error true first window number = state_after_error first window number
state_on_error false first window number = Never

-- The stop state of the record of this number, among the lines of all records that were read.
abbrev pub stop_state : StopRules → ℕ → List Outcome → ℕ → StopState
stop_state rules window outcomes number =
    stronger (state_after rules.after window (length outcomes) number)
    (state_on_error rules.on_error (first_error 1 outcomes) window number)
