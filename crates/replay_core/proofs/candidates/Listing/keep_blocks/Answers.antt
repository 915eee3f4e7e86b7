use Rattle.std.proofs.Common.{[], ◌∷◌, subst, arith}
use Rattle.trace_text.specs.Kinds.{block_event}
use Rattle.life_rules.specs.declared.event.Event.{Event}
use Rattle.exec_life.specs.StateLists.{machine}
use Rattle.replay_core.specs.Listings.{Keeps}
use Rattle.replay_core.proofs.Kept.{keeps_number, keeps_numbers}
use Rattle.replay_core.proofs.candidates.Listing.keep_blocks.Goals as goal

pub loop-block-preserved : goal.loop-block-preserved
loop-block-preserved c =
    let s = machine c.args.self.now.state.now in
    let kept =
    subst (λ (e : Event). Keeps s c.args.self.now.hand c.loop-block.found.items c.keep.new.found.items (e ∷ []))
    c.event.ensures c.in_ok-keep.ensures in
    keeps_number (λ b. block_event c.args.kind b ∷ []) s.blocks c.loop-block.block c.loop-block.invariant kept (omega arith)

pub returns : goal.returns
returns c =
    let s = machine c.args.self.now.state.now in
    keeps_numbers (λ b. block_event c.args.kind b ∷ []) s.blocks c.loop-block.block c.loop-block.invariant (omega arith)
