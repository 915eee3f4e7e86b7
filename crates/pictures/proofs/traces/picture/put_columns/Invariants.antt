use Rattle.std.proofs.Common.{take}
use Rattle.std.specs.List.{flat_map, range_with_len}
use Rattle.pictures.specs.Adding.{Adds}
use Rattle.pictures.specs.Traces.Headings.{column_text}
use Rattle.pictures.proofs.traces.picture.put_columns.Given as goal

abbrev pub invariant-loop-block : goal.invariant-loop-block
invariant-loop-block l =
    Adds l.initial.text.items l.text.items (flat_map column_text (take l.block (range_with_len 0 l.fn.blocks)))
