use Rattle.std.proofs.Common.{◌+◌, ◌/◌, ap}
use Rattle.name_set.proofs.Empties.{sized-zeros, unmarked, empty-zeros}
use Rattle.name_set.proofs.Windows.{zeros-within}
use Rattle.name_set.proofs.set.NameSet.empty.Goals as goal

pub invariant_of-result : goal.invariant_of-result
invariant_of-result c =
    let bits = c.in_ok-bits.ensures.items_if_clones_equal (λ y is. is) in
    let generations = c.in_ok-generations.ensures.items_if_clones_equal (λ y is. is) in
    record {
      sized = sized-zeros c.args.layout c.in_ok-bits.bits.items c.in_ok-generations.generations.items _ bits c.requires.blocks
          c.requires.nodes (ap (λ n. n / 64 + 1) c.places.ensures) generations;
      within = zeros-within c.in_ok-bits.bits.items
          (unmarked c.args.layout c.in_ok-bits.bits.items c.in_ok-generations.generations.items _ bits);
    }

pub returns-clause-empty : goal.returns-clause-empty
returns-clause-empty c =
    empty-zeros c.args.layout c.in_ok-bits.bits.items c.in_ok-generations.generations.items _
    (c.in_ok-bits.ensures.items_if_clones_equal (λ y is. is))
