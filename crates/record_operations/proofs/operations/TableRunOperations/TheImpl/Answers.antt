use Rattle.record_loop.proofs.WorkLaws.{Keeps-trans}
use Rattle.record_operations.proofs.Worked.{keeps-work, left-work, operations-work}
use Rattle.record_operations.proofs.operations.TableRunOperations.TheImpl.Goals as goal

pub turn-asks : goal.turn-asks
turn-asks g c = record { sync = record { shared = c.requires.sync.shared } }

pub turn-tells : goal.turn-tells
turn-tells g c =
    let turns = c.ensures.turns in
    Keeps-trans (keeps-work c.args.self.now turns.between turns.keeps) (operations-work turns.between c.new.self.now turns.kept)

pub collect-asks : goal.collect-asks
collect-asks g c = record { sync = record { shared = c.requires.sync.shared }; begun = c.requires.begun }

pub collect-tells : goal.collect-tells
collect-tells g c = left-work c.args.self.now c.new.self.now c.args.ticket c.result c.ensures.leaves
