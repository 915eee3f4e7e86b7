-- What is true of reasons.
use Rattle.std.specs.Prelude.{◌≡◌, ◌↔◌, ℕ, false, true, Some, None}
use Rattle.life_rules.specs.declared.event.Event.{Event}
use Rattle.life_rules.specs.Sound.{Sound}
use Rattle.life_rules.specs.States.{State}
use Rattle.life_rules.specs.Steps.{Move, is_step}
use Rattle.step_reasons.specs.declared.fact.Fact.{Fact}
use Rattle.step_reasons.specs.Reasons.{reason_of}
use Rattle.step_reasons.specs.So.{IsSo}

abbrev pub move : ℕ → Event → Move
move h event = record { hand = h; event = event }

-- a step that may not be taken has a reason, and no other has one
abbrev pub RefusedStepsHaveReasons : Type 0
RefusedStepsHaveReasons =
    (s : State) (h : ℕ) (event : Event) →
    (reason_of s h event ≡ None) ↔ (is_step s (move h event) ≡ true)

-- what a reason says is so in the state
abbrev pub ReasonsAreSo : Type 0
ReasonsAreSo =
    (s : State) (h : ℕ) (event : Event) (fact : Fact) → Sound s →
    reason_of s h event ≡ Some fact → IsSo s fact

-- in each sound state of the same tree in which it is so the step may not be taken
abbrev pub FactsForbid : Type 0
FactsForbid =
    (s t : State) (h : ℕ) (event : Event) (fact : Fact) → Sound s → Sound t → t.tree ≡ s.tree →
    reason_of s h event ≡ Some fact → IsSo t fact → is_step t (move h event) ≡ false
