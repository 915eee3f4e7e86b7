use Rattle.std.proofs.Common.{◌≡◌, map, drop}
use Rattle.trace_text.specs.WordTable.{found_in}
use Rattle.trace_text.proofs.word_table.find_word.Given as goal

-- the word is that of no row that was passed
abbrev pub invariant-rows : goal.invariant-rows
invariant-rows g l =
    found_in (map (λ row. (row.0.now, row.1)) l.rows) l.word
    ≡ found_in (map (λ row. (row.0.now, row.1)) (drop l.row-index l.rows)) l.word
