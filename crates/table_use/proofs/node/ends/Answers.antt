use Rattle.std.proofs.Common.{◌∙◌}
use Rattle.table_use.specs.declared.node.Fault.TheVariants.{Registered}
use Rattle.table_use.proofs.Completing.{EmptiesHome, can-fill, filled-holds, ready-holds, can-finish, just-ended, ended-beside}
use Rattle.table_use.proofs.Nodes.{node-inner}
use Rattle.table_use.proofs.Noted.{swapped-notes, phased-notes, finished-notes}
use Rattle.table_use.proofs.Steps.{on, swapped-on, phase-on, finished-on}
use Rattle.table_use.proofs.Readings.{registered-cause}
use Rattle.table_use.proofs.Reasons.{registered-here, node-within}
use Rattle.table_use.proofs.node.ends.Goals as goal

pub put_home-requires-clause-needs : goal.put_home-requires-clause-needs
put_home-requires-clause-needs c κs =
    let empties : EmptiesHome c.args.table.now c.args.x c.args.item c.args.hand.now.me c.take_home-start.new.hand.me = record {
      is = c.requires.node;
      has = c.requires.holds;
      out = c.take_home-start.result;
      took = c.take_home-start.ensures.taken;
    } in
    can-fill empties c.requires.fits

pub phase_of-requires-clause-holds : goal.phase_of-requires-clause-holds
phase_of-requires-clause-holds c κs =
    let empties : EmptiesHome c.args.table.now c.args.x c.args.item c.args.hand.now.me c.take_home-start.new.hand.me = record {
      is = c.requires.node;
      has = c.requires.holds;
      out = c.take_home-start.result;
      took = c.take_home-start.ensures.taken;
    } in
    filled-holds empties c.put_home.ensures.put

pub finish-requires-clause-needs : goal.finish-requires-clause-needs
finish-requires-clause-needs c κs =
    let empties : EmptiesHome c.args.table.now c.args.x c.args.item c.args.hand.now.me c.take_home-start.new.hand.me = record {
      is = c.requires.node;
      has = c.requires.holds;
      out = c.take_home-start.result;
      took = c.take_home-start.ensures.taken;
    } in
    can-finish empties c.put_home.ensures.put c.phase_of.new.hand.me c.phase_of.result c.phase_of.ensures.phase
    c.requires.idle (c.is_registered.ensures.never c.if-is_registered.false) c.requires.ends c.requires.fits

pub returns-clause-ended : goal.returns-clause-ended
returns-clause-ended c =
    let empties : EmptiesHome c.args.table.now c.args.x c.args.item c.args.hand.now.me c.take_home-start.new.hand.me = record {
      is = c.requires.node;
      has = c.requires.holds;
      out = c.take_home-start.result;
      took = c.take_home-start.ensures.taken;
    } in
    just-ended empties c.put_home.ensures.put c.phase_of.new.hand.me c.phase_of.result c.phase_of.ensures.phase
    c.requires.inner c.finish.new.hand.me c.finish.ensures.finished

pub returns-clause-beside : goal.returns-clause-beside
returns-clause-beside c =
    let empties : EmptiesHome c.args.table.now c.args.x c.args.item c.args.hand.now.me c.take_home-start.new.hand.me = record {
      is = c.requires.node;
      has = c.requires.holds;
      out = c.take_home-start.result;
      took = c.take_home-start.ensures.taken;
    } in
    ended-beside empties c.put_home.ensures.put c.phase_of.new.hand.me c.phase_of.result c.phase_of.ensures.phase
    c.requires.inner c.finish.new.hand.me c.finish.ensures.finished

pub returns-clause-notes : goal.returns-clause-notes
returns-clause-notes c =
    finished-notes c.args.table.now c.args.x c.phase_of.new.hand.me c.finish.new.hand.me c.requires.node _ _ _ c.requires.inner c.finish.ensures.finished.did
    ∙ phased-notes c.args.table.now c.args.x c.put_home.new.hand.me c.phase_of.new.hand.me c.phase_of.result c.phase_of.ensures.phase
    ∙ swapped-notes c.args.table.now c.args.x c.take_home-start.new.hand.me c.put_home.new.hand.me _ _ c.put_home.ensures.put
    ∙ swapped-notes c.args.table.now c.args.x c.args.hand.now.me c.take_home-start.new.hand.me _ _ c.take_home-start.ensures.taken

pub returns-then-is_registered-clause-notes : goal.returns-then-is_registered-clause-notes
returns-then-is_registered-clause-notes c =
    phased-notes c.args.table.now c.args.x c.put_home.new.hand.me c.phase_of.new.hand.me c.phase_of.result c.phase_of.ensures.phase
    ∙ swapped-notes c.args.table.now c.args.x c.take_home-start.new.hand.me c.put_home.new.hand.me _ _ c.put_home.ensures.put
    ∙ swapped-notes c.args.table.now c.args.x c.args.hand.now.me c.take_home-start.new.hand.me _ _ c.take_home-start.ensures.taken

pub returns-clause-steps : goal.returns-clause-steps
returns-clause-steps c =
    let board = c.args.table.now in
    on c.args.hand.now.me c.take_home-start.new.hand.me c.finish.new.hand.me
    (swapped-on board c.args.x c.args.hand.now.me c.take_home-start.new.hand.me _ _ c.take_home-start.ensures.taken)
    (on c.take_home-start.new.hand.me c.put_home.new.hand.me c.finish.new.hand.me
    (swapped-on board c.args.x c.take_home-start.new.hand.me c.put_home.new.hand.me _ _ c.put_home.ensures.put)
    (on c.put_home.new.hand.me c.phase_of.new.hand.me c.finish.new.hand.me
    (phase-on board c.args.x c.put_home.new.hand.me c.phase_of.new.hand.me c.phase_of.result c.phase_of.ensures.phase)
    (finished-on board c.args.x c.phase_of.new.hand.me c.finish.new.hand.me _ _ _
    (c.finish.ensures.finished.did.0 (node-inner board c.args.x c.requires.node c.requires.inner)))))

pub returns-then-is_registered-clause-fault : goal.returns-then-is_registered-clause-fault
returns-then-is_registered-clause-fault c =
    let empties : EmptiesHome c.args.table.now c.args.x c.args.item c.args.hand.now.me c.take_home-start.new.hand.me = record {
      is = c.requires.node;
      has = c.requires.holds;
      out = c.take_home-start.result;
      took = c.take_home-start.ensures.taken;
    } in
    let board = c.args.table.now in
    node-within board c.args.hand.now.me c.put_home.new.hand.me c.phase_of.new.hand.me
    (on c.args.hand.now.me c.take_home-start.new.hand.me c.put_home.new.hand.me
    (swapped-on board c.args.x c.args.hand.now.me c.take_home-start.new.hand.me _ _ c.take_home-start.ensures.taken)
    (swapped-on board c.args.x c.take_home-start.new.hand.me c.put_home.new.hand.me _ _ c.put_home.ensures.put))
    c.args.x Registered
    (registered-here board c.put_home.new.hand.me c.phase_of.new.hand.me c.args.x c.requires.inner
    (registered-cause board c.args.x c.put_home.new.hand.me c.phase_of.new.hand.me c.phase_of.result
    (c.is_registered.ensures.once c.if-is_registered.true) c.phase_of.ensures.phase
    (ready-holds empties c.put_home.ensures.put c.phase_of.new.hand.me c.phase_of.result c.phase_of.ensures.phase)))
