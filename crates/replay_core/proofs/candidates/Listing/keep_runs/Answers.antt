use Rattle.std.proofs.Common.{refl, arith}
use Rattle.exec_life.specs.StateLists.{machine}
use Rattle.replay_core.specs.Candidates.{sources_of, runs_at}
use Rattle.replay_core.proofs.Kept.{keeps_more, keeps_each}
use Rattle.replay_core.proofs.There.{source-known}
use Rattle.replay_core.proofs.candidates.Listing.keep_runs.Goals as goal

pub keep_runs_at-requires : goal.keep_runs_at-requires
keep_runs_at-requires c =
    source-known (machine c.args.self.now.state.now) c.args.self.now.sources.now c.loop-source.source-index _
    c.args.self.now.ready.sources_are c.loop-source-test.true

pub loop-source-preserved : goal.loop-source-preserved
loop-source-preserved c =
    let s = machine c.args.self.now.state.now in
    keeps_more (runs_at s) c.args.self.now.sources.now (sources_of s) c.loop-source.source-index _ _ c.args.self.now.ready.sources_are
    c.loop-source.invariant c.in_ok-keep_runs_at.ensures c.loop-source-test.true refl

pub returns : goal.returns
returns c =
    let s = machine c.args.self.now.state.now in
    keeps_each (runs_at s) c.args.self.now.sources.now (sources_of s) c.loop-source.source-index c.args.self.now.ready.sources_are
    c.loop-source.invariant (omega (arith, c.loop-source-test.false))
