use Rattle.timer_wheel.proofs.SettlingLaws.{IsWheel-removed, IsDue-ready, NoneIsDue-ready, count_of-removed}
use Rattle.timer_wheel.proofs.wheel.Wheel.due.Goals as goal

pub returns-in_err-place-clause-none : goal.returns-in_err-place-clause-none
returns-in_err-place-clause-none c =
    rw (c.from_residual.ensures, ← c.self.view_is)
    (NoneIsDue-ready c.self.inside.turn c.self.inside.due_turns.items c.self.inside.lists c.self.invariant c.in_err-place.ensures.none)

pub invariant_of-self-2 : goal.invariant_of-self-2
invariant_of-self-2 c =
    rw c.in_ok-place.ensures.taken
    (IsWheel-removed c.self.inside.turn c.self.inside.due_turns.items c.self.inside.lists c.self.invariant c.in_ok-place.place)

pub returns-clause-some : goal.returns-clause-some
returns-clause-some c =
    rw (← c.self.view_is)
    (IsDue-ready c.self.inside.turn c.self.inside.due_turns.items c.self.inside.lists c.self.invariant c.in_ok-place.place
    c.in_ok-place.ensures.some)

pub returns-clause-count : goal.returns-clause-count
returns-clause-count c =
    let wheel = c.self.inside in
    rw (← c.self.view_is)
    (count_of-removed (record { turn = wheel.turn; due_turns = wheel.due_turns.items }) c.in_ok-place.place
    (IsDue-ready wheel.turn wheel.due_turns.items wheel.lists c.self.invariant c.in_ok-place.place c.in_ok-place.ensures.some))
