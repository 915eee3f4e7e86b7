use Rattle.std.proofs.Common.{◌≡◌, take}
use Rattle.std.specs.List.{filter}
use Rattle.exec_life.specs.StateLists.{machine}
use Rattle.replay_core.specs.Candidates.{places_of}
use Rattle.replay_core.specs.Listings.{is_waiting}
use Rattle.replay_core.proofs.candidates.Listing.waiting.Given as goal

abbrev pub invariant-loop-place : goal.invariant-loop-place
invariant-loop-place l =
    let s = machine l.self.state.now in
    l.waiting.items ≡ filter (is_waiting s l.self.hand) (take l.place-index (places_of s))
