use Rattle.std.proofs.Common.{◌≡◌, ◌<◌, length, true, false, None, Some, cond, sym, ap, ◌∙◌, arith}
use Rattle.std.specs.Prelude.{nat_lt}
use Rattle.std.proofs.lemmas.Bool.{lt-ltb, le-ltb}
use Rattle.exec_life.specs.StateLists.{machine}
use Rattle.life_rules.specs.States.{size}
use Rattle.step_reasons.specs.Scanning.{has_next, next_block, next_node, place_of}
use Rattle.step_reasons.proofs.Firsts.{first-start, first-found, first-next, first-end}
use Rattle.step_reasons.proofs.reading.next_place.Goals as goal

pub loop-block-init : goal.loop-block-init
loop-block-init c =
    let s = machine c.args.state.now in
    record {
      so_far = first-start (has_next s c.args.hand c.args.source) s.blocks;
      size_is = c.size-size.ensures.size ∙ ap length c.tree.ensures;
    }

pub returns-then-node-size : goal.returns-then-node-size
returns-then-node-size c =
    let s = machine c.args.state.now in
    let b = c.loop-block.block in
    let block : b < s.blocks = omega (arith, c.blocks-block-end.ensures) in
    let node = c.next_node-node.ensures in
    let below : next_node s c.args.hand c.args.source b < size s = omega (arith, node, c.if-node-size.true, c.loop-block.invariant.size_is) in
    let has : has_next s c.args.hand c.args.source b ≡ true = lt-ltb _ (size s) below in
    let found : next_block s c.args.hand c.args.source ≡ b = first-found (has_next s c.args.hand c.args.source) s.blocks b block c.loop-block.invariant.so_far has in
    ap (λ n. Some (place_of b n)) node
    ∙ sym
    (ap (λ k. cond (nat_lt k s.blocks) (Some (place_of k (next_node s c.args.hand c.args.source k))) None) found
    ∙ ap (λ r. cond r (Some (place_of b (next_node s c.args.hand c.args.source b))) None) (lt-ltb b s.blocks block))

pub loop-block-preserved : goal.loop-block-preserved
loop-block-preserved c =
    let s = machine c.args.state.now in
    let b = c.loop-block.block in
    let block : b < s.blocks = omega (arith, c.blocks-block-end.ensures) in
    let none : has_next s c.args.hand c.args.source b ≡ false =
    le-ltb (next_node s c.args.hand c.args.source b) (size s) (omega (arith, c.next_node-node.ensures, c.if-node-size.false, c.loop-block.invariant.size_is)) in
    record {
      so_far = first-next (has_next s c.args.hand c.args.source) s.blocks b block c.loop-block.invariant.so_far none;
      size_is = c.loop-block.invariant.size_is;
    }

pub returns : goal.returns
returns c =
    let s = machine c.args.state.now in
    let all : c.loop-block.block ≡ s.blocks = omega (arith, c.blocks-block-end.ensures) in
    let none : next_block s c.args.hand c.args.source ≡ s.blocks = first-end (has_next s c.args.hand c.args.source) s.blocks c.loop-block.block all c.loop-block.invariant.so_far in
    sym
    (ap (λ k. cond (nat_lt k s.blocks) (Some (place_of k (next_node s c.args.hand c.args.source k))) None) none
    ∙ ap (λ r. cond r (Some (place_of s.blocks (next_node s c.args.hand c.args.source s.blocks))) None) (le-ltb s.blocks s.blocks (omega arith)))
