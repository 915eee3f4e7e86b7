use Rattle.std.proofs.Common.{◌<◌, ◌-◌, arith, length, ◌∙◌, length-set}
use Rattle.std.proofs.lemmas.List.{get_or-set_other}
use Rattle.node_tree.specs.declared.nearest.NearestSource.TheVariants.{Scope}
use Rattle.node_tree.proofs.Walk.{parent_of-read}
use Rattle.node_tree.proofs.Filled.{filled-some, filled-none}
use Rattle.node_tree.proofs.nearest.nearest_sources.Goals as goal

pub loop-node-preserved-in-Some : goal.loop-node-preserved-in-Some
loop-node-preserved-in-Some c =
    let n = c.loop-node.node - 1 in
    let kept = c.loop-node.invariant in
    let within : n < length c.args.nodes.now = omega arith in
    record {
      as_long = length-set c.loop-node.table.items n c.given_by.result ∙ kept.as_long;
      below = λ k l.
          get_or-set_other c.loop-node.table.items n k c.given_by.result Scope (λ e. absurd (omega (arith, l, e)))
          ∙ kept.below k (omega arith);
      above =
          filled-some c.args.nodes.now c.loop-node.table.items n c.in-Some.parent c.index.result.now c.given_by.result
          c.requires within kept.as_long (parent_of-read c.args.nodes.now n _ within ∙ c.in-Some.is)
          c.index.ensures c.given_by.ensures (λ k from. kept.above k (omega (arith, from)));
    }

pub loop-node-preserved : goal.loop-node-preserved
loop-node-preserved c =
    let n = c.loop-node.node - 1 in
    let kept = c.loop-node.invariant in
    let within : n < length c.args.nodes.now = omega arith in
    record {
      as_long = kept.as_long;
      below = λ k l. kept.below k (omega arith);
      above =
          filled-none c.args.nodes.now c.loop-node.table.items n
          (parent_of-read c.args.nodes.now n _ within ∙ c.in_default.is)
          (kept.below n (omega arith)) (λ k from. kept.above k (omega (arith, from)));
    }
