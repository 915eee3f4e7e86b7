use Rattle.table_words.specs.Blocks.{block_read}
use Rattle.table_steps.specs.Claims.{root_aim}
use Rattle.op_table.proofs.table.OpTable.claim_at.Given as goal

abbrev pub ghosts-claim_from : goal.ghosts-claim_from
ghosts-claim_from g a =
    record { aim = root_aim a.self.now a.block (block_read a.found).generation }
