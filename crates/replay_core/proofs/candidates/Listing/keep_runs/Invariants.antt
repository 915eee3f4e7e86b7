use Rattle.std.proofs.Common.{take}
use Rattle.std.specs.List.{flat_map}
use Rattle.exec_life.specs.StateLists.{machine}
use Rattle.replay_core.specs.Candidates.{sources_of, runs_at}
use Rattle.replay_core.specs.Listings.{Keeps}
use Rattle.replay_core.proofs.candidates.Listing.keep_runs.Given as goal

abbrev pub invariant-loop-source : goal.invariant-loop-source
invariant-loop-source l =
    let s = machine l.self.state.now in
    Keeps s l.self.hand l.initial.found.items l.found.items (flat_map (runs_at s) (take l.source-index (sources_of s)))
