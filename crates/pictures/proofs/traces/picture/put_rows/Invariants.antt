use Rattle.std.proofs.Common.{length, take}
use Rattle.std.specs.List.{flat_map, range_with_len}
use Rattle.pictures.specs.Adding.{Adds}
use Rattle.pictures.specs.Traces.Picture.{row_of}
use Rattle.pictures.proofs.traces.picture.put_rows.Given as goal

abbrev pub invariant-loop-number : goal.invariant-loop-number
invariant-loop-number l =
    Adds l.initial.text.items l.text.items
    (flat_map (row_of l.frame l.fn.refused l.entries) (take l.number (range_with_len 0 (length l.entries))))
