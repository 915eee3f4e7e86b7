use Rattle.std.proofs.Common.{[], ◌∷◌, refl, arith}
use Rattle.life_rules.specs.declared.event.Event.TheVariants.{SealScan}
use Rattle.exec_life.specs.StateLists.{machine}
use Rattle.replay_core.specs.Candidates.{sources_of}
use Rattle.replay_core.proofs.Kept.{keeps_more, keeps_each}
use Rattle.replay_core.proofs.candidates.Listing.keep_seal_scans.Goals as goal

pub loop-source-preserved : goal.loop-source-preserved
loop-source-preserved c =
    let s = machine c.args.self.now.state.now in
    keeps_more (λ source. SealScan source ∷ []) c.args.self.now.sources.now (sources_of s) c.loop-source.source-index _ _ c.args.self.now.ready.sources_are
    c.loop-source.invariant c.in_ok-keep.ensures c.loop-source-test.true refl

pub returns : goal.returns
returns c =
    let s = machine c.args.self.now.state.now in
    keeps_each (λ source. SealScan source ∷ []) c.args.self.now.sources.now (sources_of s) c.loop-source.source-index c.args.self.now.ready.sources_are
    c.loop-source.invariant (omega (arith, c.loop-source-test.false))
