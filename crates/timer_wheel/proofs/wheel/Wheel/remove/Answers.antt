use Rattle.timer_wheel.proofs.SettlingLaws.{IsWheel-removed}
use Rattle.timer_wheel.proofs.wheel.Wheel.remove.Goals as goal

pub invariant_of-self-2 : goal.invariant_of-self-2
invariant_of-self-2 c =
    rw c.if-not-remove.ensures.removed
    (IsWheel-removed c.self.inside.turn c.self.inside.due_turns.items c.self.inside.lists c.self.invariant c.args.place)
