use Rattle.std.proofs.Common.{List, [], ◌∷◌, ◌++◌, ap, ◌∙◌}
use Rattle.by_example.specs.OneHand.{TheHand}
use Rattle.by_example.proofs.OneHands.{all-back, all-counted}
use Rattle.by_example.proofs.opening.close_one.Goals as goal

pub close_table-requires-clause-hands : goal.close_table-requires-clause-hands
close_table-requires-clause-hands c κs =
    all-back c.args.table c.push_reserved.new.self.items c.args.hand c.requires.one
    (c.push_reserved.ensures.items ∙ ap (λ (all : List TheHand). all ++ c.args.hand ∷ []) c.requires.none) c.requires.back

pub returns-clause-back : goal.returns-clause-back
returns-clause-back c =
    all-counted c.args.table c.push_reserved.new.self.items c.args.hand c.close_table.result.remains
    (c.push_reserved.ensures.items ∙ ap (λ (all : List TheHand). all ++ c.args.hand ∷ []) c.requires.none) c.requires.back
    c.close_table.ensures.counted
