use Rattle.std.proofs.Common.{◌++◌, ◌∷◌, [], replicate, ap, ◌∙◌, arith, append_assoc}
use Rattle.std.proofs.lemmas.List.{replicate_more}
use Rattle.std.proofs.lemmas.Grind.{common_steps}
use Rattle.plan_builder.proofs.room.append_copies.Goals as goal

pub loop-preserved : goal.loop-preserved
loop-preserved g c =
    let n = c.loop.counter in
    let kept = c.loop.invariant in
    record {
      items =
          c.append.ensures.items
          ∙ ap (λ xs. xs ++ c.args.item ∷ []) kept.items
          ∙ append_assoc c.args.items.now.items (replicate n c.args.item) (c.args.item ∷ [])
          ∙ ap (λ xs. c.args.items.now.items ++ xs) (replicate_more n c.args.item);
      length = grind (arith, common_steps);
      room = omega arith;
    }
