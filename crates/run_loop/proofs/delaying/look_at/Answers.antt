use Rattle.std.proofs.Common.{arith, rules}
use Rattle.run_loop.proofs.Looking.{delay-within, delay-few, place-within}
use Rattle.run_loop.proofs.delaying.look_at.Goals as goal

pub parked_at-requires-clause-node : goal.parked_at-requires-clause-node
parked_at-requires-clause-node c κs = delay-within c.args.table.now c.requires.over c.args.delay c.requires.delay

pub place_at-place-requires-clause-node : goal.place_at-place-requires-clause-node
place_at-place-requires-clause-node c = delay-within c.args.table.now c.requires.over c.args.delay c.requires.delay

pub saw_parked-requires-clause-place : goal.saw_parked-requires-clause-place
saw_parked-requires-clause-place c =
    let board = c.args.table.now in
    let delay = c.args.delay in
    let place = place-within board c.requires.over c.args.block delay.node c.requires.block
    (delay-within board c.requires.over delay c.requires.delay) in
    let is = c.place_at-place.ensures in
    let room = c.requires.places in
    omega (arith, is, place, room)

pub saw_parked-requires-clause-turns : goal.saw_parked-requires-clause-turns
saw_parked-requires-clause-turns c =
    let few = delay-few c.args.table.now c.requires.over c.args.delay c.requires.delay in omega (arith, few)

pub returns-clause-looks : goal.returns-clause-looks
returns-clause-looks c = search rules
