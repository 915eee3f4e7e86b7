use Rattle.std.proofs.Common.{take}
use Rattle.std.specs.List.{flat_map, range_with_len}
use Rattle.pictures.specs.Adding.{Adds}
use Rattle.pictures.specs.Traces.Headings.{lane_text}
use Rattle.pictures.proofs.traces.picture.put_lanes.Given as goal

abbrev pub invariant-loop-hand : goal.invariant-loop-hand
invariant-loop-hand l =
    Adds l.initial.text.items l.text.items (flat_map (lane_text l.frame) (take l.hand (range_with_len 0 l.fn.hands)))
