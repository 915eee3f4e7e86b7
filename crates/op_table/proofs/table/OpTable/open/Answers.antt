use Rattle.std.proofs.Common.{◌≤◌, sym, ap, ◌∙◌, subst}
use Rattle.node_tree.specs.Tree.{IsTree}
use Rattle.node_tree.specs.declared.node.TheConstants.{MOST_NODES}
use Rattle.table_hands_kept.proofs.Opening.{framed}
use Rattle.table_hands_kept.proofs.AsOpened.{stays-as-opened}
use Rattle.table_steps.specs.Views.{AreFreshHands}
use Rattle.op_table.proofs.table.OpTable.open.Goals as goal

pub of_frame-requires-clause-frame : goal.of_frame-requires-clause-frame
of_frame-requires-clause-frame g c κs within =
    let same = (c.in_ok-clone.ensures {u = tt}).cases in
    framed _ c.args.tree.now same c.size.ensures.size
    (subst (λ n. n ≤ MOST_NODES) c.size.ensures.size c.size.ensures.bound) c.requires.blocks.1 c.requires.hands.1

pub of_frame-requires-clause-tree : goal.of_frame-requires-clause-tree
of_frame-requires-clause-tree g c κs within =
    subst IsTree (sym (c.in_ok-clone.ensures {u = tt}).cases) c.size.ensures.tree

pub all_hands-requires-clause-nodes : goal.all_hands-requires-clause-nodes
all_hands-requires-clause-nodes g c κs within =
    subst (λ f. 1 ≤ f.layout.nodes) (sym (c.in_ok-table.ensures {u = tt}).frame)
    (subst (λ n. 1 ≤ n) (sym c.size.ensures.size) c.size.ensures.tree.some)

pub all_hands-requires-clause-hands : goal.all_hands-requires-clause-hands
all_hands-requires-clause-hands g c κs within =
    subst (λ f. 1 ≤ f.hands) (sym (c.in_ok-table.ensures {u = tt}).frame) c.requires.hands.0

pub all_hands-requires-clause-first : goal.all_hands-requires-clause-first
all_hands-requires-clause-first g c κs within = (c.in_ok-table.ensures {u = tt}).first

pub returns-in-Ok-clause-opened : goal.returns-in-Ok-clause-opened
returns-in-Ok-clause-opened g c =
    let is = (c.in_ok-table.ensures {u = tt}).frame in
    record {
      tree_is = ap (λ f. f.tree) is ∙ (c.in_ok-clone.ensures {u = tt}).cases;
      over_is = ap (λ f. f.over.value) is ∙ c.of.ensures;
      blocks_are = ap (λ f. f.layout.blocks) is;
      hands_are = ap (λ f. f.hands) is;
      kind_is = ap (λ f. f.kind) is;
      most_is = ap (λ f. f.most) is;
    }

pub returns-in-Ok-clause-hands : goal.returns-in-Ok-clause-hands
returns-in-Ok-clause-hands g c =
    subst (λ n. AreFreshHands c.in_ok-table.table n c.in-Ok.all.items)
    (ap (λ f. f.hands) (c.in_ok-table.ensures {u = tt}).frame) (c.in-Ok.ensures {u = tt})

pub returns-in-Ok-clause-vacant : goal.returns-in-Ok-clause-vacant
returns-in-Ok-clause-vacant g c =
    let table = c.in_ok-table.table in
    stays-as-opened g.P.Cargo table table.frame.hands c.in-Ok.all.items (c.in-Ok.ensures {u = tt})
