use Rattle.std.proofs.Common.{Bool, Option, Some, true, arith, refl, sym, subst}
use Rattle.plan_rules.specs.declared.node.Node.{Node}
use Rattle.op_slot.proofs.Staying.{stays-on}
use Rattle.step_parts.specs.Takes.{TakesOne}
use Rattle.life_rules.specs.declared.event.Resting.TheVariants.{Parked}
use Rattle.table_steps.specs.Steps.{control_index}
use Rattle.table_steps.specs.Views.{Stays}
use Rattle.exec_recv.specs.Asides.{KeepsAside}
use Rattle.exec_recv.specs.Seats.{HandSeat}
use Rattle.exec_recv.proofs.Asiding.{aside-on}
use Rattle.exec_recv.proofs.Since.{moved-after}
use Rattle.exec_ahead.proofs.Seconds.{ahead-only}
use Rattle.node_walks.specs.Serving.{TakesUp, TakesWord}
use Rattle.node_walks.proofs.Read.{looked-rests, looked-only, lost-missed}
use Rattle.node_walks.proofs.Took.{took-aside, took-can, took-moved}
use Rattle.serve_ahead.proofs.Found.{at-hand, finds-second, since-taken}
use Rattle.serve_ahead.proofs.taking.take_ahead.Goals as goal

pub returns-then-not-take_parked-clause-missed : goal.returns-then-not-take_parked-clause-missed
returns-then-not-take_parked-clause-missed g c =
    let lost = (rw c.site.view_is at c.take_parked.ensures.taken).1 c.if-not-take_parked.true in
    let old = c.args.hand.now.me in
    let new = c.take_parked.new.hand.me in
    record {
      rests = looked-rests _ _ old new lost.2 c.requires.rests;
      looks = looked-only _ _ old new lost.2;
      missed = lost-missed c.args.site.now Parked c.args.at.name old new lost;
    }

pub take_one-taken-requires-clause-may : goal.take_one-taken-requires-clause-may
take_one-taken-requires-clause-may g c =
    let won = (rw c.site.view_is at c.take_parked.ensures.taken).0 c.if-not-take_parked.false in
    let can = took-can c.args.site.now _ c.requires.site.over c.args.at.name c.requires.place _ _ _ c.args.hand.now.me c.take_parked.new.hand.me
    won.2 c.requires.hand.seated c.requires.rests in
    record {
      site = c.requires.site;
      of = (rw c.site.view_is at c.take_parked.ensures.stays).hand;
      can = can.can;
      starts = can.starts;
    }

pub take_one-taken-requires-clause-only : goal.take_one-taken-requires-clause-only
take_one-taken-requires-clause-only g c =
    ahead-only c.args.site.now c.args.at.name c.args.at.first c.args.at.second c.requires.site c.requires.node

pub take_one-taken-requires-clause-one : goal.take_one-taken-requires-clause-one
take_one-taken-requires-clause-one g c =
    subst (λ (o : Option Node). TakesOne o (Some c.args.at.second)) (sym c.requires.node) (tt, (0, omega arith, refl))

pub returns-clause-stays : goal.returns-clause-stays
returns-clause-stays g c =
    let takes = c.take_one-taken.ensures in
    stays-on c.args.site.now c.args.hand.now c.take_parked.new.hand c.take_one-taken.new.hand (rw c.site.view_is at c.take_parked.ensures.stays)
    (subst (λ (h : HandSeat). Stays c.args.site.now h c.take_one-taken.new.hand) takes.from_is takes.is.stays)

pub returns-clause-took : goal.returns-clause-took
returns-clause-took g c =
    let board = c.args.site.now in
    let x = c.args.at.name in
    let over = c.requires.site.over in
    let place = c.requires.place in
    let seated = c.requires.hand.seated in
    let old = c.args.hand.now in
    let held = c.take_parked.new.hand in
    let new = c.take_one-taken.new.hand in
    let up = c.take_one-taken.result in
    let won = (rw c.site.view_is at c.take_parked.ensures.taken).0 c.if-not-take_parked.false in
    let takes = c.take_one-taken.ensures in
    let since = since-taken board c.args.at up held new takes in
    record {
      has = at-hand board c.args.at up held new takes c.into_parcel.result c.into_parcel.ensures c.requires.node
          (took-can board _ over x place _ _ _ old.me held.me won.2 seated c.requires.rests);
      finds = finds-second board c.args.at up held new takes c.into_parcel.result c.into_parcel.ensures;
      stays = subst (λ (h : HandSeat). Stays board old h) (sym takes.from_is) (rw c.site.view_is at c.take_parked.ensures.stays);
      took = subst (λ (h : HandSeat). TakesUp board x Parked true old.me h.me) (sym takes.from_is)
          (subst (λ (answer : Bool). TakesUp board x Parked answer old.me held.me) c.if-not-take_parked.false
          (rw c.site.view_is at c.take_parked.ensures.taken));
      before = subst (λ (h : HandSeat). KeepsAside old.me h.me) (sym takes.from_is)
          (took-aside board _ over x place _ _ _ old.me held.me won.2 seated c.requires.rests);
      aside = aside-on old.me held.me new.me (took-aside board _ over x place _ _ _ old.me held.me won.2 seated c.requires.rests) since;
      moved = moved-after (control_index board x) (TakesWord Parked x) old.me held.me new.me
          (took-moved board _ over x place _ _ _ old.me held.me won.2 seated c.requires.rests (TakesWord Parked x) (refl, won.1)) since;
    }
