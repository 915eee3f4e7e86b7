use Rattle.std.proofs.Common.{length, arith}
use Rattle.std.specs.Prelude.{nat_lt}
use Rattle.std.proofs.lemmas.Bool.{and_parts, ltb-true}
use Rattle.exec_life.specs.Parts.{lists_of}
use Rattle.exec_life.proofs.Puts.{hand-view}
use Rattle.exec_life.proofs.LifeMeans.{claim-means}
use Rattle.exec_life.proofs.parts.Parts.claim.Goals as goal

pub returns : goal.returns
returns c =
    let d = lists_of c.args.self.now in
    let v = c.index_mut.result.now in
    let has = hand-view d c.args.hand v c.requires.ready.state c.requires.ready.hand_is c.index_mut.ensures.value in
    claim-means d c.set_block.new.self c.args.hand v c.set_role.new.self c.args.block has c.requires.needs
    (rw c.block-word.ensures at c.set_block.ensures) (rw c.size.ensures.size at c.set_role.ensures)

pub set_role-requires : goal.set_role-requires
set_role-requires c =
    let d = lists_of c.args.self.now in
    let v = c.index_mut.result.now in
    let state = c.requires.ready.state in
    let has = hand-view d c.args.hand v state c.requires.ready.hand_is c.index_mut.ensures.value in
    let over = state.fitted.each_view c.args.hand v has.view_is in
    let blocks = length d.words.blocks in
    let free = (and_parts (nat_lt c.args.block blocks) _ c.requires.needs).0 in
    let block = ltb-true c.args.block blocks free in
    let size = c.size.ensures in
    record {
      block = omega (arith, block, over.blocks_are);
      node = omega (arith, size.tree.some, size.size, over.nodes_are);
    }
