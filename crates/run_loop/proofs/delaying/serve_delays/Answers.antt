use Rattle.std.proofs.Common.{ap, ◌∙◌, subst, arith, refl}
use Rattle.op_slot.proofs.Staying.{stays-on}
use Rattle.exec_recv.specs.Asides.{Aside}
use Rattle.exec_recv.proofs.Asiding.{aside-on}
use Rattle.timer_wheel.specs.Delays.{DelayList, places}
use Rattle.run_loop.specs.Delayed.{LooksBelow, MayTakeDue, MayTakeOf}
use Rattle.run_loop.specs.Serves.{moment}
use Rattle.run_loop.proofs.Due.{due-now, passes}
use Rattle.run_loop.proofs.Served.{more-none, more-on, more-by}
use Rattle.run_loop.proofs.delaying.serve_delays.Goals as goal

pub look_round-requires-clause-over : goal.look_round-requires-clause-over
look_round-requires-clause-over g c = rw (← c.site.view_is) at c.requires.site.over

pub take_due-requires-clause-first : goal.take_due-requires-clause-first
take_due-requires-clause-first g c κs within = ap (λ (a : Aside). a.number) c.look_round.ensures.only.aside.same ∙ c.requires.first

pub returns-clause-stays : goal.returns-clause-stays
returns-clause-stays g c =
    stays-on c.args.site.now c.args.hand.now c.look_round.new.hand c.take_due.new.hand (rw c.site.view_is at c.look_round.ensures.stays) c.take_due.ensures.stays

pub returns-clause-aside : goal.returns-clause-aside
returns-clause-aside g c =
    aside-on c.args.hand.now.me c.look_round.new.hand.me c.take_due.new.hand.me c.look_round.ensures.only.aside c.take_due.ensures.aside

pub returns-clause-served : goal.returns-clause-served
returns-clause-served g c =
    let does = g.T.Stepper.does in
    let board = c.args.site.now in
    let old = c.args.hand.now.me in
    let between = c.look_round.new.hand.me in
    let new = c.take_due.new.hand.me in
    let may = MayTakeDue board old new c.take_due.new.delays.turn c.args.delays.now in
    let start = moment c.args.hand.now c.args.names.now in
    let looked = moment c.look_round.new.hand c.args.names.now in
    let end = moment c.take_due.new.hand c.take_due.new.names in
    more-on does board may c.args.taken c.args.taken c.take_due.result start looked end
    (more-none does board may c.args.taken start looked (omega arith) (record { looks = c.look_round.ensures.only; unheard = refl }))
    (more-by does board (MayTakeOf board c.look_round.new.delays) may
    (due-now board c.args.nodes.now old between new c.args.delays.now c.look_round.new.delays c.take_due.new.delays.turn
    (subst (λ (d : DelayList). LooksBelow board c.args.nodes.now board.frame.layout.blocks old between d c.look_round.new.delays)
    c.next_turn.ensures (rw c.site.view_is at c.look_round.ensures.looks))
    c.take_due.ensures.due.takes.turn c.take_due.ensures.aside)
    c.args.taken c.take_due.result looked end c.take_due.ensures.served)

pub returns-clause-turn : goal.returns-clause-turn
returns-clause-turn g c =
    let board = c.args.site.now in
    let old = c.args.hand.now.me in
    let between = c.look_round.new.hand.me in
    let new = c.take_due.new.hand.me in
    passes board c.requires.site.over c.args.nodes.now c.requires.nodes c.take_due.result old
    between new c.args.delays.now c.look_round.new.delays c.take_due.new.delays
    (subst (λ (d : DelayList). LooksBelow board c.args.nodes.now board.frame.layout.blocks old between d c.look_round.new.delays)
    c.next_turn.ensures (rw c.site.view_is at c.look_round.ensures.looks)) c.take_due.ensures.due c.look_round.ensures.only.aside c.take_due.ensures.aside

pub look_round-requires-clause-hand : goal.look_round-requires-clause-hand
look_round-requires-clause-hand g c = rw (← c.site.view_is) at c.requires.hand

pub look_round-requires-clause-places : goal.look_round-requires-clause-places
look_round-requires-clause-places g c = rw c.next_turn.ensures (rw (← c.site.view_is) at c.requires.places)

pub look_round-requires-clause-nodes : goal.look_round-requires-clause-nodes
look_round-requires-clause-nodes g c = rw (← c.site.view_is) at c.requires.nodes

pub take_due-requires-clause-hand : goal.take_due-requires-clause-hand
take_due-requires-clause-hand g c κs within = rw c.site.view_is at c.look_round.ensures.stays.hand

pub returns-clause-places : goal.returns-clause-places
returns-clause-places g c =
    c.take_due.ensures.due.takes.places_are ∙ c.look_round.ensures.looks.places_are ∙ ap places c.next_turn.ensures
