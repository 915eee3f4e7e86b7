use Rattle.std.proofs.Common.{refl, arith}
use Rattle.exec_life.specs.StateLists.{machine}
use Rattle.replay_core.specs.Candidates.{places_of, rests_at}
use Rattle.replay_core.proofs.Kept.{keeps_more, keeps_each}
use Rattle.replay_core.proofs.candidates.Listing.keep_rests.Goals as goal

pub loop-place-preserved : goal.loop-place-preserved
loop-place-preserved c =
    let s = machine c.args.self.now.state.now in
    keeps_more rests_at c.args.self.now.places.now (places_of s) c.loop-place.place-index _ _ c.args.self.now.ready.places_are
    c.loop-place.invariant c.in_ok-keep_rests_at.ensures c.loop-place-test.true refl

pub returns : goal.returns
returns c =
    let s = machine c.args.self.now.state.now in
    keeps_each rests_at c.args.self.now.places.now (places_of s) c.loop-place.place-index c.args.self.now.ready.places_are
    c.loop-place.invariant (omega (arith, c.loop-place-test.false))
