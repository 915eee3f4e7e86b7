use Rattle.std.proofs.Common.{◌≡◌, take}
use Rattle.std.specs.List.{flat_map}
use Rattle.exec_life.specs.StateLists.{machine}
use Rattle.replay_core.specs.Candidates.{places_in, blocks_of}
use Rattle.replay_core.proofs.grounds.all_places.Given as goal

abbrev pub invariant-loop-block : goal.invariant-loop-block
invariant-loop-block l =
    l.places.items ≡ flat_map (places_in (machine l.state)) (take l.block (blocks_of (machine l.state)))
