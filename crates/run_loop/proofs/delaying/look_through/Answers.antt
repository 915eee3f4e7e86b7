use Rattle.std.proofs.Common.{arith, ◌≡◌, length, subst}
use Rattle.std.proofs.lemmas.Option.{slice_get-get_or}
use Rattle.op_slot.proofs.Staying.{stays-here, stays-on}
use Rattle.node_walks.proofs.Read.{looks-here, looks-on}
use Rattle.run_loop.proofs.Looking.{through-none, through-more}
use Rattle.run_loop.proofs.PlaceLooks.{look-only, look-rests}
use Rattle.run_loop.specs.Delayed.{LooksThrough}
use Rattle.run_loop.proofs.delaying.look_through.Goals as goal

pub loop-delay-init : goal.loop-delay-init
loop-delay-init c =
    record {
      stays = stays-here c.args.table.now c.args.hand.now c.requires.hand;
      rests = c.requires.rests;
      only = looks-here c.args.hand.now.me;
      looks = through-none c.args.table.now c.requires.over c.args.nodes.now c.requires.nodes c.args.block c.args.hand.now.me c.args.delays.now;
    }

pub loop-delay-preserved : goal.loop-delay-preserved
loop-delay-preserved c =
    let board = c.args.table.now in
    let before = c.loop-delay.invariant in
    let old = c.args.hand.now in
    let between = c.loop-delay.hand in
    let new = c.look_at.new.hand in
    let looks = c.look_at.ensures.looks in
    let only = look-only board c.args.block _ between.me new.me c.loop-delay.delays c.look_at.new.delays looks in
    let places = before.looks.places_are in
    let below = c.loop-delay-test.true in
    let room = c.requires.places (omega (arith, below)) in
    record {
      stays = stays-on board old between new before.stays c.look_at.ensures.stays;
      rests = look-rests board c.args.block _ between.me new.me c.loop-delay.delays c.look_at.new.delays looks before.rests;
      only = looks-on old.me between.me new.me before.only only;
      looks = through-more board c.requires.over c.args.nodes.now c.requires.nodes c.args.block c.loop-delay.delay-index old.me between.me
          new.me c.args.delays.now c.loop-delay.delays c.look_at.new.delays _
          (slice_get-get_or c.args.nodes.now c.loop-delay.delay-index _ c.loop-delay-test.true) c.requires.block
          (omega (arith, places, room)) before.looks looks before.only.aside only.aside;
    }

pub look_at-requires-clause-places : goal.look_at-requires-clause-places
look_at-requires-clause-places c =
    let places = c.loop-delay.invariant.looks.places_are in
    let below = c.loop-delay-test.true in
    let room = c.requires.places (omega (arith, below)) in
    omega (arith, places, room)

pub look_at-requires-clause-delay : goal.look_at-requires-clause-delay
look_at-requires-clause-delay c =
    c.requires.nodes.each c.loop-delay.delay-index _
    (slice_get-get_or c.args.nodes.now c.loop-delay.delay-index _ c.loop-delay-test.true)

pub returns-clause-looks : goal.returns-clause-looks
returns-clause-looks c =
    let end = c.loop-delay.auto.delay-index-end in
    let past = c.loop-delay-test.false in
    let all : c.loop-delay.delay-index ≡ length c.args.nodes.now = omega (arith, end, past) in
    subst (λ n. LooksThrough c.args.table.now c.args.block c.args.nodes.now n c.args.hand.now.me c.loop-delay.hand.me
    c.args.delays.now c.loop-delay.delays) all c.loop-delay.invariant.looks
