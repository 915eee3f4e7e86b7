use Rattle.std.proofs.Common.{[], ◌∷◌, ◌∙◌, refl, sym, arith}
use Rattle.life_rules.specs.declared.event.Event.TheVariants.{Run}
use Rattle.exec_life.specs.StateLists.{machine}
use Rattle.replay_core.specs.Candidates.{places_of}
use Rattle.replay_core.proofs.Kept.{keeps_more, keeps_each}
use Rattle.replay_core.proofs.Passed.{keeps_no_run}
use Rattle.replay_core.proofs.There.{source-knows}
use Rattle.replay_core.proofs.candidates.Listing.keep_runs_at.Goals as goal

pub scans-requires : goal.scans-requires
scans-requires c = source-knows (machine c.args.self.now.state.now) c.args.self.now.hand _ c.args.source c.view.ensures.tells c.requires

pub returns-then-not-scans : goal.returns-then-not-scans
returns-then-not-scans c =
    keeps_no_run (machine c.args.self.now.state.now) c.args.self.now.hand _ c.args.source _ (c.view.ensures.tells.scans c.args.source)
    (sym c.scans.ensures ∙ c.if-not-scans.true)

pub loop-place-preserved : goal.loop-place-preserved
loop-place-preserved c =
    let s = machine c.args.self.now.state.now in
    keeps_more (λ p. Run c.args.source p ∷ []) c.args.self.now.places.now (places_of s) c.loop-place.place-index _ _ c.args.self.now.ready.places_are
    c.loop-place.invariant c.in_ok-keep.ensures c.loop-place-test.true refl

pub returns : goal.returns
returns c =
    let s = machine c.args.self.now.state.now in
    keeps_each (λ p. Run c.args.source p ∷ []) c.args.self.now.places.now (places_of s) c.loop-place.place-index c.args.self.now.ready.places_are
    c.loop-place.invariant (omega (arith, c.loop-place-test.false))
