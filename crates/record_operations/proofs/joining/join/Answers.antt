use Rattle.record_operations.proofs.Moved.{joining-ready, joining-same, same-on}
use Rattle.record_operations.proofs.joining.join.Goals as goal

pub wait_joined-requires-clause-ready : goal.wait_joined-requires-clause-ready
wait_joined-requires-clause-ready g c κs within =
    joining-ready c.args.table.now c.args.looped.now c.close.new.hand c.start_join.new.hand
    c.close.ensures.closed c.start_join.result c.start_join.ensures.starts c.requires.ready
    c.close.ensures.stays.hand c.start_join.ensures.stays.hand

pub returns-in-Joined-clause-ready : goal.returns-in-Joined-clause-ready
returns-in-Joined-clause-ready g c =
    joining-ready c.args.table.now c.args.looped.now c.close.new.hand c.start_join.new.hand
    c.close.ensures.closed c.start_join.result c.start_join.ensures.starts c.requires.ready
    c.close.ensures.stays.hand c.start_join.ensures.stays.hand

pub returns-in-Joined-clause-same : goal.returns-in-Joined-clause-same
returns-in-Joined-clause-same g c =
    joining-same c.args.table.now c.args.looped.now c.close.new.hand c.start_join.new.hand
    c.close.ensures.closed c.start_join.result c.start_join.ensures.starts

pub returns-in-Waiting-clause-same : goal.returns-in-Waiting-clause-same
returns-in-Waiting-clause-same g c =
    same-on c.args.looped.now.hand.me c.start_join.new.hand.me c.wait_joined.new.looped.hand.me
    (joining-same c.args.table.now c.args.looped.now c.close.new.hand c.start_join.new.hand
    c.close.ensures.closed c.start_join.result c.start_join.ensures.starts)
    c.wait_joined.ensures.same
