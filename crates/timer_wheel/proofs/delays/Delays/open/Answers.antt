use Rattle.std.proofs.Common.{◌≡◌, None, replicate, rules}
use Rattle.timer_wheel.proofs.WheelLaws.{on-opened}
use Rattle.timer_wheel.proofs.delays.Delays.open.Goals as goal

pub invariant_of-result : goal.invariant_of-result
invariant_of-result c =
    let none : c.in_ok-waiting.waiting.items ≡ replicate c.args.places None = search rules in
    on-opened c.in_ok-wheel.wheel c.in_ok-waiting.waiting.items c.args.places c.in_ok-wheel.ensures none
