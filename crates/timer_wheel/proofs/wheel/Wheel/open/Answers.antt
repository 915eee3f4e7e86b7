use Rattle.std.proofs.Common.{◌≡◌, None, replicate, rules}
use Rattle.timer_wheel.proofs.SettlingLaws.{IsWheel-opened}
use Rattle.timer_wheel.proofs.wheel.Wheel.open.Goals as goal

pub invariant_of-result : goal.invariant_of-result
invariant_of-result c =
    let none : c.in_ok-due_turns.due_turns.items ≡ replicate c.args.places None = search rules in
    IsWheel-opened c.args.places c.in_ok-due_turns.due_turns.items c.in_ok-lists.lists c.requires.few none c.in_ok-lists.ensures
