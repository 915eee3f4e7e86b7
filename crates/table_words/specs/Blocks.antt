-- The word of a block as a number.
use Rattle.std.specs.Prelude.{ℕ, ◌==◌, if◌then◌else◌}
use Rattle.life_rules.specs.declared.words.BlockState.{BlockState}
use Rattle.life_rules.specs.declared.words.BlockState.TheVariants.{Free, Open, Retired}
use Rattle.life_rules.specs.declared.words.BlockWord.{BlockWord}
use Rattle.table_words.specs.Stamps.{stamp_of, code_of, packed}

abbrev pub state_code : BlockState → ℕ
state_code Free = 0
state_code Open = 1
state_code Retired = 2

abbrev pub state_of_code : ℕ → BlockState
state_of_code c = if c == 0 then Free else (if c == 1 then Open else Retired)

abbrev pub block_written : BlockWord → ℕ
block_written w = packed w.generation (state_code w.state)

abbrev pub block_read : ℕ → BlockWord
block_read w = record { generation = stamp_of w; state = state_of_code (code_of w) }
