use Rattle.std.proofs.Common.{ℕ, ◌+◌, List, Option, length, sym, ap, ◌∙◌}
use Rattle.timer_wheel.proofs.RingLaws.{first-node, AreLists-put}
use Rattle.timer_wheel.proofs.lists.Lists.push.Goals as goal

pub join-requires-clause-second : goal.join-requires-clause-second
join-requires-clause-second c =
    let lists = c.self.inside in
    first-node lists.links.next.items lists.links.prev.items lists.homes.items c.self.invariant
    c.args.bucket c.head-head.result c.index-first.result.now c.requires.bucket
    (c.head-head.ensures ∙ ap (λ (homes : List (Option ℕ)). length homes + c.args.bucket) (sym c.self.view_is)) c.index-first.ensures

pub invariant_of-self : goal.invariant_of-self
invariant_of-self c =
    let lists = c.self.inside in
    rw (c.join-2.ensures.next, c.join.ensures.next, c.join-2.ensures.prev, c.join.ensures.prev)
    (AreLists-put lists.links.next.items lists.links.prev.items lists.homes.items c.self.invariant
    c.args.place c.args.bucket c.head-head.result c.index-first.result.now
    (rw (← c.self.view_is) at c.requires.place) (rw (← c.self.view_is) at c.requires.free) c.requires.bucket
    (c.head-head.ensures ∙ ap (λ (homes : List (Option ℕ)). length homes + c.args.bucket) (sym c.self.view_is)) c.index-first.ensures)
