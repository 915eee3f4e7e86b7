use Rattle.std.proofs.Common.{length, ap, arith}
use Rattle.std.proofs.lemmas.Nat.{mul-le}
use Rattle.run_loop.proofs.delaying.place_at.Goals as goal

pub overflow_mul-result : goal.overflow_mul-result
overflow_mul-result c =
    let blocks = c.blocks-2.ensures.blocks in
    let most = c.blocks-2.ensures.most in
    let block = c.requires.block in
    let bound = c.size.ensures.bound in
    let product = mul-le c.args.block c.size.result 256 1025 (omega (arith, blocks, most, block)) (omega (arith, bound)) in
    omega (arith, product)

pub overflow_add-result : goal.overflow_add-result
overflow_add-result c =
    let blocks = c.blocks-2.ensures.blocks in
    let most = c.blocks-2.ensures.most in
    let block = c.requires.block in
    let bound = c.size.ensures.bound in
    let product = mul-le c.args.block c.size.result 256 1025 (omega (arith, blocks, most, block)) (omega (arith, bound)) in
    let size = c.size.ensures.size in
    let tree = ap length c.tree.ensures.tree in
    let nodes = c.requires.over.nodes in
    let node = c.requires.node in
    omega (arith, product, size, tree, nodes, node, bound)
