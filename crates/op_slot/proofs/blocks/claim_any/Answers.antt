use Rattle.op_slot.proofs.Searching.{searched-any}
use Rattle.op_slot.proofs.blocks.claim_any.Goals as goal

pub returns-clause-claimed : goal.returns-clause-claimed
returns-clause-claimed g c =
    searched-any c.args.table.now c.args.hand.now c.claim_from.new.hand c.claim_from.result c.claim_from.ensures.claimed
