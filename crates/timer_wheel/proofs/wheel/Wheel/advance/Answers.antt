use Rattle.timer_wheel.proofs.SettlingLaws.{IsSettledBut-begins, NoneBelongs-begins}
use Rattle.timer_wheel.proofs.wheel.Wheel.advance.Goals as goal

pub settle-requires-clause-others : goal.settle-requires-clause-others
settle-requires-clause-others c =
    rw (c.bucket_of-coming.ensures.value, c.deref.ensures.value)
    (IsSettledBut-begins c.self.inside.turn c.self.inside.due_turns.items c.self.inside.lists c.self.invariant.settled)

pub settle-requires-clause-none : goal.settle-requires-clause-none
settle-requires-clause-none c =
    rw (c.bucket_of-coming.ensures.value, c.deref.ensures.value)
    (NoneBelongs-begins c.self.inside.turn c.self.inside.due_turns.items c.self.inside.lists c.self.invariant)
