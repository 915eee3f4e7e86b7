use Rattle.std.proofs.Common.{[], ◌∷◌, take}
use Rattle.std.specs.List.{flat_map}
use Rattle.exec_life.specs.StateLists.{machine}
use Rattle.trace_text.specs.Kinds.{block_event}
use Rattle.replay_core.specs.Candidates.{blocks_of}
use Rattle.replay_core.specs.Listings.{Keeps}
use Rattle.replay_core.proofs.candidates.Listing.keep_blocks.Given as goal

abbrev pub invariant-loop-block : goal.invariant-loop-block
invariant-loop-block l =
    let s = machine l.self.state.now in
    Keeps s l.self.hand l.initial.found.items l.found.items (flat_map (λ b. block_event l.kind b ∷ []) (take l.block (blocks_of s)))
