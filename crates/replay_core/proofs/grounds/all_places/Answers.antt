use Rattle.std.proofs.Common.{[], ◌∙◌, arith}
use Rattle.exec_life.specs.StateLists.{machine}
use Rattle.replay_core.specs.Candidates.{places_in}
use Rattle.replay_core.proofs.Kept.{grown, numbers_next, numbers_all}
use Rattle.replay_core.proofs.grounds.all_places.Goals as goal

pub loop-block-preserved : goal.loop-block-preserved
loop-block-preserved c =
    let s = machine c.args.state.now in
    grown [] _ _ _ _ _ c.loop-block.invariant c.in_ok-add_places_in.ensures
    (numbers_next (places_in s) s.blocks c.loop-block.block (omega arith))

pub returns : goal.returns
returns c =
    let s = machine c.args.state.now in
    c.loop-block.invariant ∙ numbers_all (places_in s) s.blocks c.loop-block.block (omega arith)
