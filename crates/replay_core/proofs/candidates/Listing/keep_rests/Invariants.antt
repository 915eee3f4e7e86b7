use Rattle.std.proofs.Common.{take}
use Rattle.std.specs.List.{flat_map}
use Rattle.exec_life.specs.StateLists.{machine}
use Rattle.replay_core.specs.Candidates.{places_of, rests_at}
use Rattle.replay_core.specs.Listings.{Keeps}
use Rattle.replay_core.proofs.candidates.Listing.keep_rests.Given as goal

abbrev pub invariant-loop-place : goal.invariant-loop-place
invariant-loop-place l =
    let s = machine l.self.state.now in
    Keeps s l.self.hand l.initial.found.items l.found.items (flat_map rests_at (take l.place-index (places_of s)))
