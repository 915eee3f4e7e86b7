use Rattle.std.proofs.Common.{◌+◌, ◌-◌}
use Rattle.deck_relay.specs.SameDecks.{keeps-here}
use Rattle.run_loop.specs.Loops.{deck_of}
use Rattle.record_operations.proofs.Entered.{entered, missed-has, missed-back}
use Rattle.record_operations.proofs.Moved.{associated-moves, refused-moves, left-moves, moved-same, rehanded}
use Rattle.record_operations.proofs.entering.enter.Goals as goal

pub start-requires-clause-ready : goal.start-requires-clause-ready
start-requires-clause-ready g c κs within =
    let loop = c.args.looped.now in
    rehanded c.args.table.now (loop.hand.me.0.made + 1) loop c.associate.new.hand c.requires.ready
    c.in-Ok.ensures.stays.hand
    (associated-moves loop.hand.me c.associate.new.hand.me c.in-Ok.association
    c.in-Ok.ensures.counted)

pub disassociate-requires-clause-has : goal.disassociate-requires-clause-has
disassociate-requires-clause-has g c κs =
    let board = c.args.table.now in
    let loop = c.args.looped.now in
    missed-has board loop.next board.frame.layout.blocks loop.hand.me c.associate.new.hand c.start.new.looped.hand
    (associated-moves loop.hand.me c.associate.new.hand.me c.in-Ok.association c.in-Ok.ensures.counted) c.in-Err.ensures.none c.requires.settled

pub returns-in_default-clause-ready : goal.returns-in_default-clause-ready
returns-in_default-clause-ready g c =
    let loop = c.args.looped.now in
    rehanded c.args.table.now loop.hand.me.0.made loop c.associate.new.hand c.requires.ready
    c.in_default.ensures.stays.hand
    (refused-moves loop.hand.me c.associate.new.hand.me c.in_default.field-0
    c.in_default.ensures.counted)

pub returns-in_default-clause-same : goal.returns-in_default-clause-same
returns-in_default-clause-same g c =
    let m = c.args.looped.now.hand.me in
    moved-same m c.associate.new.hand.me
    (refused-moves m c.associate.new.hand.me c.in_default.field-0 c.in_default.ensures.counted)

pub returns-in_default-clause-deck : goal.returns-in_default-clause-deck
returns-in_default-clause-deck g c = keeps-here (deck_of c.args.looped.now)

pub returns-in-Ok-start-clause-entered : goal.returns-in-Ok-start-clause-entered
returns-in-Ok-start-clause-entered g c =
    let loop = c.args.looped.now in
    entered c.args.table.now
    (record { block = c.in-Ok-start.block; association = c.in-Ok.association }) c.args.env
    loop.hand.me (record loop { hand = c.associate.new.hand }) c.start.new.looped
    (associated-moves loop.hand.me c.associate.new.hand.me c.in-Ok.association
    c.in-Ok.ensures.counted) c.in-Ok-start.ensures.started

pub returns-in-Err-clause-ready : goal.returns-in-Err-clause-ready
returns-in-Err-clause-ready g c =
    let loop = c.start.new.looped in
    rehanded c.args.table.now (loop.hand.me.0.made - 1) loop c.disassociate.new.hand
    c.in-Err.ensures.ready c.disassociate.ensures.stays.hand
    (left-moves loop.hand.me c.disassociate.new.hand.me c.disassociate.ensures.left)

pub returns-in-Err-clause-same : goal.returns-in-Err-clause-same
returns-in-Err-clause-same g c =
    let board = c.args.table.now in
    let loop = c.args.looped.now in
    missed-back board loop.next board.frame.layout.blocks loop.hand.me c.associate.new.hand c.start.new.looped.hand
    (associated-moves loop.hand.me c.associate.new.hand.me c.in-Ok.association c.in-Ok.ensures.counted) c.in-Err.ensures.none
    c.disassociate.new.hand.me (left-moves c.start.new.looped.hand.me c.disassociate.new.hand.me c.disassociate.ensures.left)
