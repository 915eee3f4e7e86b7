use Rattle.timer_wheel.proofs.WheelLaws.{on-removed, none-due}
use Rattle.timer_wheel.proofs.delays.Delays.due.Goals as goal

pub returns-in_err-place-clause-none : goal.returns-in_err-place-clause-none
returns-in_err-place-clause-none c =
    rw (c.from_residual.ensures, ← c.self.view_is)
    (none-due c.self.inside.wheel c.self.inside.waiting.items c.self.invariant c.in_err-place.ensures.none)

pub invariant_of-self-2 : goal.invariant_of-self-2
invariant_of-self-2 c =
    on-removed c.self.inside.wheel c.self.inside.waiting.items c.self.invariant c.due.new.self c.in_ok-place.place
    c.in_ok-place.ensures.taken
