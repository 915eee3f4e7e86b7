use Rattle.std.proofs.Common.{◌≡◌, None, replicate, rules}
use Rattle.timer_wheel.proofs.RingLaws.{AreLists-opened}
use Rattle.timer_wheel.proofs.lists.Lists.open.Goals as goal

pub invariant_of-result : goal.invariant_of-result
invariant_of-result c =
    let links = c.in_ok-links in
    let none : c.in_ok-homes.homes.items ≡ replicate c.args.places None = search rules in
    AreLists-opened c.args.places links.links.next.items links.links.prev.items c.in_ok-homes.homes.items c.requires
    links.ensures.next links.ensures.prev none
