use Rattle.std.proofs.Common.{◌≡◌, take, false}
use Rattle.std.specs.List.{fold}
use Rattle.pictures.specs.Traces.Armed.{armed_after}
use Rattle.pictures.proofs.traces.armed.is_still_armed.Given as goal

abbrev pub invariant-loop-entry : goal.invariant-loop-entry
invariant-loop-entry l = l.armed ≡ fold (armed_after l.fn.place) false (take l.entry-index l.earlier)
