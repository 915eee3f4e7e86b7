-- Wheels: how the delays stand on the wheel.
use Rattle.std.specs.Prelude.{◌≡◌, List, Option, map}
use Rattle.std.specs.Option.{option_map}
use Rattle.timer_wheel.specs.Pairs.{Pairs}
use Rattle.timer_wheel.specs.declared.waiting.Waiting.{Waiting}
use Rattle.timer_wheel.specs.Delays.{turn_due}

-- the wheel has a pair for each delay, with the delay's due turn
abbrev pub IsOnWheel : Pairs → List (Option Waiting) → Type 0
IsOnWheel pairs waiting = pairs.due_turns ≡ map (option_map turn_due) waiting
