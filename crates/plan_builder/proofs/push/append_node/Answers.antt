use Rattle.std.proofs.Common.{◌≡◌, ◌+◌, ◌++◌, ◌∷◌, [], ap, sym, ◌∙◌, arith, append_assoc}
use Rattle.std.proofs.lemmas.List.FromFn.{map-range_with_len_more}
use Rattle.std.proofs.lemmas.Grind.{common_steps}
use Rattle.plan_rules.specs.declared.node.Node.TheVariants.{Part}
use Rattle.plan_shape.specs.Added.{parts_of}
use Rattle.plan_builder.proofs.push.append_node.Goals as goal

pub loop-part-preserved : goal.loop-part-preserved
loop-part-preserved c =
    let n = c.loop-part.part in
    let bulk = c.args.number in
    let kept = c.loop-part.invariant in
    let parts : parts_of bulk (n + 1) ≡ parts_of bulk n ++ Part bulk n ∷ [] =
    map-range_with_len_more (λ part. Part bulk part) 0 n n (omega arith) in
    record {
      nodes =
          c.append.ensures.items
          ∙ ap (λ xs. xs ++ Part bulk n ∷ []) kept.nodes
          ∙ append_assoc c.args.nodes.now.items (parts_of bulk n) (Part bulk n ∷ [])
          ∙ ap (λ xs. c.args.nodes.now.items ++ xs) (sym parts);
      length = grind (arith, common_steps);
      room = omega arith;
    }
