use Rattle.timer_wheel.proofs.SettlingLaws.{IsWheel-added}
use Rattle.timer_wheel.proofs.wheel.Wheel.add.Goals as goal

pub invariant_of-self : goal.invariant_of-self
invariant_of-self c =
    rw (c.push.ensures, c.bucket_of.ensures.value, c.from.ensures)
    (IsWheel-added c.self.inside.turn c.self.inside.due_turns.items c.self.inside.lists c.self.invariant
    c.args.place c.args.turns (rw (← c.self.view_is) at c.requires.place) c.requires.turns)
