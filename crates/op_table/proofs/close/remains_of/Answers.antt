use Rattle.std.proofs.Common.{◌≡◌, ◌+◌, refl, ap, ◌∙◌, subst, arith}
use Rattle.std.specs.Mem.Slots.{slots_items}
use mathlib.Core.Option.{some}
use lib.ListN.{get_elem?}
use Rattle.life_rules.specs.Words.{is_free}
use Rattle.common_lemmas.specs.Sums.{one}
use Rattle.life_rules.specs.Scopes.{scope_state}
use Rattle.table_rules.specs.ShownWords.{is_retired}
use Rattle.table_hands_kept.proofs.Closings.{before-most, tells-none, tells-next}
use Rattle.op_table.proofs.close.remains_of.Goals as goal

pub loop-block-init : goal.loop-block-init
loop-block-init g c =
    tells-none c.args.layout (slots_items c.args.closed.now.words) c.word-scope.result _ c.word-scope.ensures
    (c.scope_state.ensures ∙ ap scope_state c.read_scope.ensures) refl refl

pub with_block-remains-requires : goal.with_block-remains-requires
with_block-remains-requires g c =
    let words = slots_items c.args.closed.now.words in
    let told = c.loop-block.invariant in
    let below = c.loop-block-test.true in
    let most = c.requires.layout.0 in
    let free = told.free_is in
    let retired = told.retired_is in
    let few = before-most c.args.layout words is_free c.loop-block.block in
    let fewer = before-most c.args.layout words is_retired c.loop-block.block in (
      omega (arith, below, most, free, few),
      omega (arith, below, most, retired, fewer),
    )

pub loop-block-preserved : goal.loop-block-preserved
loop-block-preserved g c =
    let words = slots_items c.args.closed.now.words in
    let old = c.loop-block.remains in
    let new = c.with_block-remains.ensures in
    tells-next c.args.layout words c.loop-block.block c.word-word.result old c.with_block-remains.result
    c.loop-block-test.true
    (subst (λ i. get_elem? words i ≡ some c.word-word.result) c.block-index.ensures.value c.word-word.ensures)
    new.scope
    (new.free ∙ ap (λ w. old.free + one (is_free w.state)) c.read_block.ensures)
    (new.retired ∙ ap (λ w. old.retired + one (is_retired w.state)) c.read_block.ensures) c.loop-block.invariant
