use Rattle.std.proofs.Common.{ℕ, ◌+◌, List, Option, length, sym, ap, ◌∙◌, arith}
use Rattle.timer_wheel.specs.Links.{home_of}
use Rattle.timer_wheel.proofs.RingLaws.{first-place, none-in}
use Rattle.timer_wheel.proofs.lists.Lists.first.Goals as goal

pub returns-then-node-len-clause-none : goal.returns-then-node-len-clause-none
returns-then-node-len-clause-none c =
    let lists = c.self.inside in
    λ place stands. none-in lists.links.next.items lists.links.prev.items lists.homes.items c.self.invariant
    c.args.bucket c.head.result c.index-node.result.now c.requires
    (c.head.ensures ∙ ap (λ (homes : List (Option ℕ)). length homes + c.args.bucket) (sym c.self.view_is)) c.index-node.ensures
    (omega (arith, lists.homes.ok.0)) place
    (ap (λ (homes : List (Option ℕ)). home_of homes place) c.self.view_is ∙ stands)

pub returns-clause-some : goal.returns-clause-some
returns-clause-some c =
    let lists = c.self.inside in
    ap (λ (homes : List (Option ℕ)). home_of homes c.index-node.result.now) (sym c.self.view_is)
    ∙ first-place lists.links.next.items lists.links.prev.items lists.homes.items c.self.invariant
    c.args.bucket c.head.result c.index-node.result.now c.requires
    (c.head.ensures ∙ ap (λ (homes : List (Option ℕ)). length homes + c.args.bucket) (sym c.self.view_is)) c.index-node.ensures
    (omega (arith, lists.homes.ok.0))
