use Rattle.std.proofs.Common.{sym, subst}
use Rattle.life_rules.specs.declared.event.Name.{Name}
use Rattle.exec_recv.specs.Sites.{node_at}
use Rattle.step_parts.specs.Stepping.{Stepping}
use Rattle.step_parts.specs.Takes.{IsOnlyChild, TakesOne, TakesUp}
use Rattle.step_parts.proofs.Finding.{up-new, up-found}
use Rattle.step_parts.proofs.taking.take_one.Goals as goal

pub returns-in-Start : goal.returns-in-Start
returns-in-Start g c =
    up-new c.args.site.now c.args.name c.args.child c.args.hand.now c.take_up-taken.new.hand c.requires.may c.take_up-taken.result.0
    c.take_up-taken.result.1 c.take_up-taken.ensures c.in-Start.is c.requires.only

pub returns-in_default : goal.returns-in_default
returns-in_default g c =
    subst (λ (t : Stepping). TakesUp c.args.site.now c.args.name c.args.child (record { taken = t; found = c.find_below.result.found })
    c.args.hand.now c.find_below.new.hand)
    (sym c.find_below.ensures.taken)
    (up-found c.args.site.now c.args.name c.args.child c.args.hand.now c.take_up-taken.new.hand c.requires.may c.take_up-taken.result.0
    c.take_up-taken.result.1 c.take_up-taken.ensures c.in_default.not-Start c.find_below.result.found c.find_below.new.hand
    c.find_below.ensures.found)

pub find_below-requires : goal.find_below-requires
find_below-requires g c =
    let board = c.args.site.now in
    let takes = c.take_up-taken.ensures in
    let can = c.requires.may.can in
    record {
      only = subst (λ (x : Name). IsOnlyChild board x c.args.child) (sym {b = c.args.name} takes.name_is) c.requires.only;
      one = subst (λ (x : Name). TakesOne (node_at board x) c.args.child) (sym {b = c.args.name} takes.name_is) c.requires.one;
      opened = record { inside = can.item; kid = can.kid; is = takes.opened can };
    }
