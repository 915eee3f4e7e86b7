use Rattle.std.specs.Prelude.{◌-◌, ◌^◌}
use Rattle.table_words.specs.Stamps.{stamp_of}
use Rattle.op_table.proofs.table.OpTable.+run_from.Given as goal

-- generations only rise
abbrev pub decreases-run_from : goal.decreases-run_from
decreases-run_from g l = 2 ^ 32 - stamp_of l.word
