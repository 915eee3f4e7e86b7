use Rattle.std.proofs.Common.{refl, sym, subst}
use Rattle.op_slot.proofs.Staying.{stays-here}
use Rattle.exec_recv.proofs.Asiding.{aside-here}
use Rattle.exec_recv.proofs.Begun.{owed-still}
use Rattle.exec_recv.proofs.BegunAside.{begun-aside}
use Rattle.exec_recv.proofs.Places.{over-places}
use Rattle.node_walks.specs.Resting.{GoesOn}
use Rattle.node_walks.specs.Walks.{FindsOwed}
use Rattle.node_walks.proofs.Going.{only-rests, begun-goes}
use Rattle.node_walks.proofs.walking.begin_owed.Goals as goal

pub owed-requires-clause-table : goal.owed-requires-clause-table
owed-requires-clause-table g c κs = rw (← c.site.view_is) at c.requires.hand

pub begin-requires-clause-table : goal.begin-requires-clause-table
begin-requires-clause-table g c κs = rw (← c.site.view_is) at c.requires.hand

pub begin-requires-clause-needs : goal.begin-requires-clause-needs
begin-requires-clause-needs g c κs =
    let owes = rw (← c.site.view_is) at c.requires.owes in
    (owes.has.starts c.in_ok-name.name c.in_ok-name.ensures.owes).begin

pub returns-clause-stays : goal.returns-clause-stays
returns-clause-stays g c = rw (← c.site.view_is) c.begin.ensures.stays

pub returns-in_err-name-clause-stays : goal.returns-in_err-name-clause-stays
returns-in_err-name-clause-stays g c = stays-here c.args.site.now c.args.hand.now c.requires.hand

pub returns-clause-aside : goal.returns-clause-aside
returns-clause-aside g c =
    let owes = rw (← c.site.view_is) at c.requires.owes in
    let name = c.in_ok-name.name in
    begun-aside c.site.inside.table.now name c.args.hand.now.me c.begin.new.hand.me c.begin.ensures.begun
    (owes.inner name c.in_ok-name.ensures.owes)

pub returns-clause-next : goal.returns-clause-next
returns-clause-next g c =
    let board = c.site.inside.table.now in
    let name = c.in_ok-name.name in
    let owes = rw (← c.site.view_is) at c.requires.owes in
    let site = rw (← c.site.view_is) at c.requires.site in
    let places = over-places board _ name site.over c.in_ok-name.ensures.place in
    let apart = c.begin.ensures.stays.hand.seated.apart in
    rw (← c.site.view_is)
    (begun-goes board name c.args.hand.now.me c.begin.new.hand.me owes.has c.in_ok-name.ensures.owes places
    c.begin.ensures.begun apart
    (λ z owes_z.
    owes.inner z
    (owed-still board name places c.args.hand.now.me c.begin.new.hand.me (owes.has.starts name c.in_ok-name.ensures.owes) owes.has.starts
    c.begin.ensures.begun apart z owes_z)))

pub returns-in_err-name-clause-aside : goal.returns-in_err-name-clause-aside
returns-in_err-name-clause-aside g c = aside-here c.args.hand.now.me

pub returns-in_err-name-clause-next : goal.returns-in_err-name-clause-next
returns-in_err-name-clause-next g c =
    subst (λ r. GoesOn c.args.site.now r c.args.hand.now.me) (sym c.from_residual.ensures)
    (only-rests c.args.site.now c.args.hand.now.me c.requires.owes.has c.in_err-name.ensures.owes)

pub returns-clause-finds : goal.returns-clause-finds
returns-clause-finds g c =
    rw (← c.site.view_is) (record { owes = c.in_ok-name.ensures.owes; begins = c.begin.ensures.begun })

pub returns-in_err-name-clause-finds : goal.returns-in_err-name-clause-finds
returns-in_err-name-clause-finds g c =
    subst (λ r. FindsOwed c.args.site.now r c.args.hand.now.me c.args.hand.now.me) (sym c.from_residual.ensures)
    (record { none = c.in_err-name.ensures.owes; same = refl })
