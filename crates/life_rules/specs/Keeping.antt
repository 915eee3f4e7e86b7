-- What is sound stays sound.
use Rattle.std.specs.Prelude.{◌≡◌, ℕ, ◌<◌, true}
use Rattle.life_rules.specs.declared.event.Event.{Event}
use Rattle.life_rules.specs.States.{State}
use Rattle.life_rules.specs.Steps.{may_happen, after}
use Rattle.life_rules.specs.Sound.{Sound}

-- a step of the event leads from a sound state to a sound one
abbrev pub KeepsSound : Event → Type 0
KeepsSound event =
    (s : State) (hand : ℕ) → Sound s → hand < s.hands → may_happen s hand event ≡ true →
    Sound (after s hand event)
