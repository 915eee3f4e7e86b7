-- The first line that is an error, as lines are added.
use Rattle.std.proofs.Common.{◌≡◌, ℕ, ◌+◌, Bool, true, false, List, [], ◌∷◌, ◌++◌, length, Option, Some, None, refl, sym, ap, ◌∙◌, arith, cond}
use Rattle.std.specs.Prelude.{if◌then◌else◌}
use Rattle.exec_value.specs.declared.outcome.Outcome.{Outcome}
use Rattle.outcome_lines.specs.Summary.{is_error}
use Rattle.line_rules.specs.StopStates.{first_error}

-- a first error stays the first
pub first_error-stays : (number j : ℕ) (outcomes more : List Outcome) → first_error number outcomes ≡ Some j → first_error number (outcomes ++ more) ≡ Some j
first_error-stays number j [] more is = cc
first_error-stays number j (o ∷ outcomes) more is = by (is_error o) is (first_error-stays (number + 1) j outcomes more)
  where
    by : (b : Bool) → (if b then Some number else first_error (number + 1) outcomes) ≡ Some j
        → (first_error (number + 1) outcomes ≡ Some j → first_error (number + 1) (outcomes ++ more) ≡ Some j)
        → (if b then Some number else first_error (number + 1) (outcomes ++ more)) ≡ Some j
    by true is later = is
    by false is later = later is

-- where there is none yet, a line that is no error leaves it so
pub first_error-none : (number : ℕ) (outcomes : List Outcome) (outcome : Outcome) → first_error number outcomes ≡ None → is_error outcome ≡ false → first_error number (outcomes ++ outcome ∷ []) ≡ None
first_error-none number [] outcome none fine = by (is_error outcome) fine
  where
    by : (b : Bool) → b ≡ false → (if b then Some number else None) ≡ None
    by true fine = cc
    by false fine = refl
first_error-none number (o ∷ outcomes) outcome none fine = by (is_error o) none (λ later. first_error-none (number + 1) outcomes outcome later fine)
  where
    by : (b : Bool) → (if b then Some number else first_error (number + 1) outcomes) ≡ None
        → (first_error (number + 1) outcomes ≡ None → first_error (number + 1) (outcomes ++ outcome ∷ []) ≡ None)
        → (if b then Some number else first_error (number + 1) (outcomes ++ outcome ∷ [])) ≡ None
    by true none later = cc
    by false none later = later none

-- and one that is an error is the first
pub first_error-found : (number : ℕ) (outcomes : List Outcome) (outcome : Outcome) → first_error number outcomes ≡ None → is_error outcome ≡ true → first_error number (outcomes ++ outcome ∷ []) ≡ Some (number + length outcomes)
first_error-found number [] outcome none failed = by (is_error outcome) failed
  where
    by : (b : Bool) → b ≡ true → (if b then Some number else None) ≡ Some (number + 0)
    by true failed = ap Some (let e : number ≡ number + 0 = omega arith in e)
    by false failed = cc
first_error-found number (o ∷ outcomes) outcome none failed = by (is_error o) none (λ later. first_error-found (number + 1) outcomes outcome later failed)
  where
    next : (number + 1) + length outcomes ≡ number + length (o ∷ outcomes)
    next = omega arith

    by : (b : Bool) → (if b then Some number else first_error (number + 1) outcomes) ≡ None
        → (first_error (number + 1) outcomes ≡ None → first_error (number + 1) (outcomes ++ outcome ∷ []) ≡ Some ((number + 1) + length outcomes))
        → (if b then Some number else first_error (number + 1) (outcomes ++ outcome ∷ [])) ≡ Some (number + length (o ∷ outcomes))
    by true none later = cc
    by false none later = later none ∙ ap Some next
