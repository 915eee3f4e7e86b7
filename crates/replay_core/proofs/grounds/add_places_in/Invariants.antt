use Rattle.std.proofs.Common.{◌≡◌, [], ◌∷◌, ◌++◌, take}
use Rattle.std.specs.List.{flat_map}
use Rattle.exec_life.specs.StateLists.{machine}
use Rattle.replay_core.specs.Candidates.{place_of, nodes_of}
use Rattle.replay_core.proofs.grounds.add_places_in.Given as goal

abbrev pub invariant-loop-node : goal.invariant-loop-node
invariant-loop-node l =
    l.places.items ≡ l.initial.places.items ++ flat_map (λ n. place_of l.block n ∷ []) (take l.node (nodes_of (machine l.state)))
