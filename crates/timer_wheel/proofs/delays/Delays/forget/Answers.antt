use Rattle.timer_wheel.proofs.WheelLaws.{removed-is, on-removed}
use Rattle.timer_wheel.proofs.delays.Delays.forget.Goals as goal

pub invariant_of-self : goal.invariant_of-self
invariant_of-self c =
    on-removed c.self.inside.wheel c.self.inside.waiting.items c.self.invariant c.remove.new.self c.args.place
    (removed-is c.self.inside.wheel c.remove.new.self c.args.place c.remove.result c.remove.ensures.answer
    c.remove.ensures.removed c.remove.ensures.absent)
