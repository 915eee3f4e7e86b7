use Rattle.std.proofs.Common.{sym, ap, subst}
use Rattle.life_rules.specs.declared.event.Name.{Name}
use Rattle.table_steps.specs.Begins.{Begins, CanBegin}
use Rattle.table_steps.specs.Claims.{root_name}
use Rattle.plan_shape.specs.Blueprint.{Blueprint}
use Rattle.table_steps.specs.Views.{Board, aimed}
use Rattle.op_slot.proofs.Staying.{stays-on}
use Rattle.home_items.specs.contracts.item.ItemCargo.TheImpl.{ghosts}
use Rattle.exec_recv.specs.Asides.{Aside}
use Rattle.node_walks.specs.Resting.{CanGoOn}
use Rattle.node_walks.specs.Starts.{MissesEach}
use Rattle.node_walks.specs.Stepped.{OnlySteps}
use Rattle.node_walks.proofs.Claimed.{missed-number, missed-rests}
use Rattle.node_walks.proofs.Started.{has-begun, placed-begins, begun-can, started-leaves}
use Rattle.node_walks.proofs.starting.begin_root.Goals as goal

pub place-requires-clause-over : goal.place-requires-clause-over
place-requires-clause-over g c = (rw (← c.site.view_is) at c.requires.site).over

pub place-requires-clause-hand : goal.place-requires-clause-hand
place-requires-clause-hand g c = rw (← c.site.view_is) at c.requires.hand

pub place-requires-clause-start : goal.place-requires-clause-start
place-requires-clause-start g c = rw (← c.site.view_is) at c.requires.start

pub begin-requires-clause-needs : goal.begin-requires-clause-needs
begin-requires-clause-needs g c κs =
    let board = c.site.inside.table.now in
    let b = c.in-Ok.block in
    let root = root_name board b.index b.generation in
    let placed = c.place.new.hand.me in
    subst (λ (x : Name). CanBegin ghosts board.frame placed x) (sym {b = root} c.root-root.ensures.name)
    (placed-begins board b c.args.env c.args.hand.now.me placed c.in-Ok.ensures.placed)

pub go_on-requires-clause-hand : goal.go_on-requires-clause-hand
go_on-requires-clause-hand g c κs within = rw (← c.site.view_is) c.begin.ensures.stays.hand

pub go_on-requires-clause-can : goal.go_on-requires-clause-can
go_on-requires-clause-can g c κs within =
    let board = c.site.inside.table.now in
    let site = rw (← c.site.view_is) at c.requires.site in
    let b = c.in-Ok.block in
    let root = root_name board b.index b.generation in
    let m = c.args.hand.now.me in
    let begun = c.begin.new.hand.me in
    rw (← c.site.view_is)
    (subst (λ (x : Name). CanGoOn board x begun) (sym {b = root} c.root-root.ensures.name)
    (begun-can board b c.args.env m begun
    (has-begun board _ b c.args.env m c.place.new.hand.me begun c.root-root.result site.over c.in-Ok.ensures.placed
    c.root-root.ensures.name c.begin.ensures.begun c.begin.ensures.stays.hand.seated.apart)))

pub returns-clause-stays : goal.returns-clause-stays
returns-clause-stays g c =
    let board = c.site.inside.table.now in
    let old = c.args.hand.now in
    rw (← c.site.view_is)
    (stays-on board old c.begin.new.hand c.go_on.new.hand
    (stays-on board old c.place.new.hand c.begin.new.hand c.place.ensures.stays c.begin.ensures.stays)
    (rw (← c.site.view_is) at c.go_on.ensures.stays))

pub returns-clause-begun : goal.returns-clause-begun
returns-clause-begun g c =
    let board = c.site.inside.table.now in
    let site = rw (← c.site.view_is) at c.requires.site in
    let b = c.in-Ok.block in
    let m = c.args.hand.now.me in
    let begun = c.begin.new.hand.me in
    let placed = c.in-Ok.ensures.placed in
    rw (← c.site.view_is)
    (record {
      within = placed.within;
      unnoted = placed.unnoted;
      leaves = started-leaves board b c.args.env m begun
          (has-begun board _ b c.args.env m c.place.new.hand.me begun c.root-root.result site.over placed c.root-root.ensures.name
          c.begin.ensures.begun c.begin.ensures.stays.hand.seated.apart) c.go_on.new.hand.me c.go_on.ensures.aside;
    })

pub returns-clause-first : goal.returns-clause-first
returns-clause-first g c =
    let board = c.site.inside.table.now in
    let b = c.in-Ok.block in
    let root = root_name board b.index b.generation in
    let placed = c.place.new.hand.me in
    let begun = c.begin.new.hand.me in
    let new = c.go_on.new.hand.me in
    let does = g.T.Stepper.does in
    let only = rw (← c.site.view_is) at c.go_on.ensures.only in
    rw (← c.site.view_is)
    (record {
      ready = only.ready;
      leaves = record {
        placed = placed;
        places = c.in-Ok.ensures.only;
        begun = begun;
        has_begun = subst (λ (x : Name). Begins ghosts (aimed board.frame x) placed begun) {y = root} c.root-root.ensures.name c.begin.ensures.begun;
        steps = subst (λ (x : Name). OnlySteps does board x begun new only.ready) {y = root} c.root-root.ensures.name only.leaves;
      };
      heard = only.heard;
    })

pub returns-clause-number : goal.returns-clause-number
returns-clause-number g c =
    let board = c.site.inside.table.now in
    let site = rw (← c.site.view_is) at c.requires.site in
    let b = c.in-Ok.block in
    let m = c.args.hand.now.me in
    let begun = c.begin.new.hand.me in
    ap (λ (a : Aside). a.number)
    (started-leaves board b c.args.env m begun
    (has-begun board _ b c.args.env m c.place.new.hand.me begun c.root-root.result site.over c.in-Ok.ensures.placed
    c.root-root.ensures.name c.begin.ensures.begun c.begin.ensures.stays.hand.seated.apart) c.go_on.new.hand.me c.go_on.ensures.aside).is

pub returns-in-Err-clause-stays : goal.returns-in-Err-clause-stays
returns-in-Err-clause-stays g c = rw (← c.site.view_is) c.place.ensures.stays

pub returns-in-Err-clause-none : goal.returns-in-Err-clause-none
returns-in-Err-clause-none g c =
    subst (λ (board : Board Blueprint). MissesEach board c.args.from c.args.hand.now c.place.new.hand) c.site.view_is c.in-Err.ensures.none

pub returns-in-Err-clause-mail : goal.returns-in-Err-clause-mail
returns-in-Err-clause-mail g c = g.met.M.Mail.none c.args.mail.now

pub returns-in-Err-clause-number : goal.returns-in-Err-clause-number
returns-in-Err-clause-number g c =
    let board = c.site.inside.table.now in
    missed-number board c.args.from board.frame.layout.blocks c.args.hand.now c.place.new.hand c.in-Err.ensures.none

pub returns-in-Err-clause-rests : goal.returns-in-Err-clause-rests
returns-in-Err-clause-rests g c =
    let board = c.site.inside.table.now in
    missed-rests board c.args.from board.frame.layout.blocks c.args.hand.now c.place.new.hand c.in-Err.ensures.none c.requires.rests
