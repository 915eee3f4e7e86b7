-- No more children are named than the tree has nodes.
use Rattle.std.proofs.Common.{ℕ, zero, suc, ◌≤◌, Bool, ◌&&◌, ◌==◌, List, length, arith}
use Rattle.std.specs.List.{list_any}
use Rattle.std.proofs.lemmas.Bool.{and_parts}
use Rattle.life_rules.specs.declared.event.Name.{Name}
use Rattle.node_tree.specs.Tree.{is_child}
use Rattle.common_lemmas.specs.Sums.{one}
use Rattle.common_lemmas.specs.Sums.{total}
use Rattle.common_lemmas.proofs.Bool.{one-most}
use Rattle.life_kept.proofs.Members.{count-different}
use Rattle.life_kept.proofs.Trees.{child-within}
use Rattle.table_rules.specs.declared.cargo.Cargo.{Ghosts}
use Rattle.table_rules.specs.declared.frame.Frame.{Frame}
use Rattle.table_steps.specs.Seats.{Seated}
use Rattle.table_steps.specs.Slots.{knows_idle}
use Rattle.table_steps.specs.Awaits.{CanAwait}

ones-most : (test : ℕ → Bool) (size : ℕ) → total (λ n. one (test n)) size ≤ size
ones-most test zero = omega arith
ones-most test (suc n) = let old = ones-most test n in let here = one-most (test n) in omega (arith, old, here)

pub named-most : {P E O : Type 0} (cargo : Ghosts P E O) (f : Frame O) (m : Seated P E) (x : Name) (nodes : List ℕ) →
    CanAwait cargo f m x nodes → length nodes ≤ length f.tree
named-most cargo f m x nodes can =
    let test : ℕ → Bool = λ n. is_child f.tree x.node n && knows_idle can.leave.held n in
    let count = count-different nodes (length f.tree) test
    (λ n passes. child-within f.tree x.node n (and_parts (is_child f.tree x.node n) (knows_idle can.leave.held n) passes).0)
    can.different can.idle in
    let most = ones-most (λ n. list_any (λ m. m == n) nodes) (length f.tree) in
    omega (arith, count, most)
