-- The moment at which a stop is requested, and what it licenses.
use Rattle.std.specs.Prelude.{◌≡◌, ◌⊎◌, ℕ, ◌+◌, ◌<◌, ◌≤◌, Bool, true, false, List, length, nat_le, slice_get, Option, Some, None, IfSome}
use Rattle.exec_value.specs.declared.outcome.Outcome.{Outcome}
use Rattle.plan_rules.specs.declared.stop.StopState.{StopState}
use Rattle.plan_rules.specs.declared.stop.StopState.TheVariants.{Never, May, Stands}
use Rattle.line_rules.specs.Lawful.{Terms, MayEnd}
use Rattle.line_rules.specs.StopStates.{StopRules, state_between, first_error}

-- When the first request was made: how many lines were written by then, and the number of the first
-- record that was started after it.
pub record Moment : Type 0 where
  pub written : ℕ
  pub first : ℕ

-- What a record may see of a request at this moment. Lines that were written by then saw none, and
-- records that were started after it run under it.
abbrev pub license : Option Moment → ℕ → StopState
license None number = Never
license (Some moment) number =
    state_between (nat_le number moment.written) (nat_le moment.first number)

-- Was the request made before this record was started?
abbrev pub is_asked_before : Option Moment → ℕ → Bool
is_asked_before None number = false
is_asked_before (Some moment) number = nat_le moment.first number

-- No request was made, and none is due: fewer records were read, and no line is an error.
pub record IsQuiet (rules : StopRules) (read : ℕ) (outcomes : List Outcome) : Type 0 where
  pub after : IfSome rules.after (λ k. read < k)
  pub on_error : rules.on_error ≡ true → first_error 1 outcomes ≡ None

-- Why the request was made: record k was read, within a window of the lines that were written; or
-- the first line that is an error was written last.
abbrev pub IsDue : StopRules → ℕ → ℕ → List Outcome → Moment → Type 0
IsDue rules window read outcomes moment =
    ((k : ℕ) × (rules.after ≡ Some k) × (k ≤ read) × (k ≤ moment.written + window))
    ⊎ ((rules.on_error ≡ true) × (first_error 1 outcomes ≡ Some moment.written))

-- The request was made at this moment, as soon as it was due.
pub record IsTimely (rules : StopRules) (window read : ℕ) (outcomes : List Outcome)
    (moment : Moment) : Type 0 where
  pub ahead : moment.written < moment.first
  pub written : moment.written ≤ length outcomes
  pub first : moment.first ≤ read + 1
  pub within : moment.first ≤ moment.written + window
  pub after : IfSome rules.after (λ k. moment.first ≤ k)
  pub on_error : rules.on_error ≡ true
      → IfSome (first_error 1 outcomes) (λ j. moment.written ≤ j)
  pub due : IsDue rules window read outcomes moment

-- The request was made at this moment, or not yet, by the rules and what was read and written.
abbrev pub IsCaused : StopRules → ℕ → ℕ → List Outcome → Option Moment → Type 0
IsCaused rules window read outcomes None = IsQuiet rules read outcomes
IsCaused rules window read outcomes (Some moment) = IsTimely rules window read outcomes moment

-- Each record has one outcome, which is one that it may end with under the license of the moment.
pub record Licensed (terms : Terms) (moment : Option Moment) (records : List (List ℕ))
    (outcomes : List Outcome) : Type 0 where
  pub as_many : length outcomes ≡ length records
  pub each : (i : ℕ) (line : List ℕ) (outcome : Outcome)
      → slice_get records i ≡ Some line → slice_get outcomes i ≡ Some outcome
      → MayEnd terms (i + 1) (license moment (i + 1)) line outcome

-- What is allowed in a stop state is allowed where a request may come.
abbrev pub Covers : Terms → Type 0
Covers terms =
    (number : ℕ) (datum : _) (stop : StopState) (completion : _)
    → terms.allows number datum stop completion → terms.allows number datum May completion
