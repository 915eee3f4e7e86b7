use Rattle.std.proofs.Common.{subst}
use Rattle.std.specs.Prelude.{Some, None}
use Rattle.op_slot.specs.Puts.{IsPut}
use Rattle.op_slot.proofs.Loans.{if-there}
use Rattle.home_items.specs.declared.item.Item.{Item}
use Rattle.step_parts.proofs.Puts.{can-put-start, puts-start}
use Rattle.step_parts.proofs.awaiting.put_start.Goals as goal

pub home_mut-requires-clause-home : goal.home_mut-requires-clause-home
home_mut-requires-clause-home g c κs = record { inside = None; home = (can-put-start _ _ _ _ (rw (← c.site.view_is) at c.requires.may)).home }

pub returns-clause-stays : goal.returns-clause-stays
returns-clause-stays g c =
    rw (← c.site.view_is) (if-there _ (c.home_mut.follows.holds (Some c.starting.result)) c.in-Some.is).stays

pub returns-clause-puts : goal.returns-clause-puts
returns-clause-puts g c =
    let f = c.site.inside.table.now.frame in
    let may = rw (← c.site.view_is) at c.requires.may in
    let hand = c.home_mut.follows.lender (Some c.starting.result) in
    let left = (if-there _ (c.home_mut.follows.holds (Some c.starting.result)) c.in-Some.is).swapped in
    let put : IsPut f c.args.child c.starting.result c.args.hand.now.me hand.me =
    record { word = left.word; home = (can-put-start _ _ _ _ may).home; me_is = left.me_is } in
    rw (← c.site.view_is)
    (puts-start _ _ _ _ may _ (subst (λ (i : Item). IsPut f c.args.child i c.args.hand.now.me hand.me) c.starting.ensures put))

pub home_mut-requires-clause-table : goal.home_mut-requires-clause-table
home_mut-requires-clause-table g c κs = rw (← c.site.view_is) at c.requires.hand
