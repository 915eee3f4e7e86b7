use Rattle.std.proofs.Common.{[], ◌∷◌, Some, refl, arith}
use Rattle.life_rules.specs.declared.event.Event.TheVariants.{Look}
use Rattle.exec_life.specs.StateLists.{machine}
use Rattle.replay_core.proofs.Kept.{keeps_more, keeps_each}
use Rattle.replay_core.proofs.Passed.{keeps_looks}
use Rattle.replay_core.proofs.candidates.Listing.keep_looks_at.Goals as goal

pub loop-place-preserved : goal.loop-place-preserved
loop-place-preserved c =
    keeps_more (λ p. Look c.args.source (Some p) ∷ []) c.args.waiting.now c.args.waiting.now c.loop-place.place-index _ _ refl
    c.loop-place.invariant c.in_ok-keep.ensures c.loop-place-test.true refl

pub returns : goal.returns
returns c =
    let s = machine c.args.self.now.state.now in
    keeps_looks s c.args.self.now.hand _ _ c.args.source c.args.waiting.now c.requires
    (keeps_each (λ p. Look c.args.source (Some p) ∷ []) c.args.waiting.now c.args.waiting.now c.loop-place.place-index refl
    c.loop-place.invariant (omega (arith, c.loop-place-test.false)))
