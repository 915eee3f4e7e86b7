-- Where the reading of a text stands: the settings, what may come next, the sender that is done,
-- the nodes whose arguments are being read, innermost first, the constants of the job that is being
-- read, and the nodes that are done.
use Rattle.std.specs.Prelude.{ℕ, List}
use Rattle.plan_notation.specs.declared.machine.Expect.{Expect}
use Rattle.plan_notation.specs.Frames.{DoneSender, FrameSeen, SpotSeen}
use Rattle.plan_notation.specs.Settings.{Settings}

pub record MachineState : Type 0 where
  pub said : Settings
  pub expect : Expect
  pub sender : DoneSender
  pub frames : List FrameSeen
  pub constants : List (List ℕ)
  pub spots : List SpotSeen
