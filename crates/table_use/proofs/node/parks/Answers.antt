use Rattle.table_use.proofs.Opening.{can-park}
use Rattle.table_use.proofs.Steps.{rests-on}
use Rattle.table_use.proofs.node.parks.Goals as goal

pub park-requires-clause-needs : goal.park-requires-clause-needs
park-requires-clause-needs c κs =
    let holds = c.requires.holds in
    can-park c.args.table.now c.args.x c.requires.node holds.0 c.args.hand.now.me c.requires.idle holds.1 c.requires.alone

pub returns-clause-steps : goal.returns-clause-steps
returns-clause-steps c =
    rests-on c.args.table.now c.args.x c.args.hand.now.me c.park.new.hand.me _ _ _ c.park.ensures.rests.did
