use Rattle.std.proofs.Common.{◌≡◌, ◌<◌, length, arith, ◌⊎◌, inl, inr}
use Rattle.stop_calls.specs.Cursors.{cursor}
use Rattle.stop_calls.proofs.Order.{none-block, none-within, from-low, from-high}
use Rattle.stop_calls.proofs.searching.next_place.Goals as goal
use Rattle.stop_calls.proofs.searching.next_place.Goals.{then-block-scan, else-block-scan}

pub returns-in-Some : goal.returns-in-Some
returns-in-Some c =
    let tree = c.args.tree.now in
    let scan = c.args.scan.now in
    let block = c.loop-block.block in
    let from = c.if-block-scan.from in
    let first = c.in-Some.ensures in
    let is : ((block ≡ scan.block) × (from ≡ scan.node)) ⊎ ((block ≡ scan.block → ⊥) × (from ≡ 0)) =
    elim c.if-block-scan.branch [
      | then-block-scan w ↦ inl (w.if-block-scan.true, w.from-is)
      | else-block-scan w ↦ inr (w.if-block-scan.false, w.from-is)
    ] in
    let inside : c.in-Some.node < length tree = first.within in
    record {
      block = omega arith;
      node = first.within;
      small = first.small;
      hears = first.hears;
      reached = from-high tree scan block from c.loop-block.auto.block is c.requires c.in-Some.node first.reached;
      before = none-within tree scan.source (cursor tree scan) block from c.in-Some.node (omega (arith, inside)) c.loop-block.invariant
          (from-low tree scan block from c.loop-block.auto.block is) first.before;
    }

pub loop-block-preserved : goal.loop-block-preserved
loop-block-preserved c =
    let tree = c.args.tree.now in
    let scan = c.args.scan.now in
    let block = c.loop-block.block in
    let from = c.if-block-scan.from in
    let is : ((block ≡ scan.block) × (from ≡ scan.node)) ⊎ ((block ≡ scan.block → ⊥) × (from ≡ 0)) =
    elim c.if-block-scan.branch [
      | then-block-scan w ↦ inl (w.if-block-scan.true, w.from-is)
      | else-block-scan w ↦ inr (w.if-block-scan.false, w.from-is)
    ] in
    none-block tree scan.source (cursor tree scan) block from c.loop-block.invariant
    (from-low tree scan block from c.loop-block.auto.block is) c.in_default.ensures
