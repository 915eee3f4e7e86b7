use Rattle.timer_wheel.specs.Links.{home_of}
use Rattle.timer_wheel.proofs.RingLaws.{some-from, before-node, after-node, AreLists-take_out}
use Rattle.timer_wheel.proofs.lists.Lists.take_out.Goals as goal

pub join-requires-clause-first : goal.join-requires-clause-first
join-requires-clause-first c =
    let lists = c.self.inside in
    before-node lists.links.next.items lists.links.prev.items lists.homes.items c.self.invariant
    c.args.place c.index-before.result.now c.index-after.result.now
    (some-from (home_of lists.homes.items c.args.place) (rw (← c.self.view_is) at c.requires))
    c.index-before.ensures c.index-after.ensures

pub join-requires-clause-second : goal.join-requires-clause-second
join-requires-clause-second c =
    let lists = c.self.inside in
    after-node lists.links.next.items lists.links.prev.items lists.homes.items c.self.invariant
    c.args.place c.index-before.result.now c.index-after.result.now
    (some-from (home_of lists.homes.items c.args.place) (rw (← c.self.view_is) at c.requires))
    c.index-before.ensures c.index-after.ensures

pub invariant_of-self : goal.invariant_of-self
invariant_of-self c =
    let lists = c.self.inside in
    rw (c.join.ensures.next, c.join.ensures.prev)
    (AreLists-take_out lists.links.next.items lists.links.prev.items lists.homes.items c.self.invariant
    c.args.place c.index-before.result.now c.index-after.result.now
    (some-from (home_of lists.homes.items c.args.place) (rw (← c.self.view_is) at c.requires))
    c.index-before.ensures c.index-after.ensures)
