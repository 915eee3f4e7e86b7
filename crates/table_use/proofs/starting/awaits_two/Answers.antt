use Rattle.std.proofs.Common.{arith, ap, ◌∙◌}
use Rattle.life_rules.specs.declared.event.Name.{Name}
use Rattle.table_use.specs.declared.node.Fault.TheVariants.{Begun}
use Rattle.table_use.proofs.Waiting.{ReadIdle, ReadBoth, first-held, second-held, root-waits, leaf-owes, branch-owed}
use Rattle.table_use.proofs.Steps.{on, child-on, awaits-on}
use Rattle.table_use.proofs.Readings.{begun-cause}
use Rattle.table_use.proofs.Reasons.{node-within, node-at}
use Rattle.table_use.proofs.Noted.{read-notes, awaited-notes}
use Rattle.table_use.specs.Uses.{use_tree}
use Rattle.node_tree.specs.Tree.{is_child}
use Rattle.table_use.proofs.starting.awaits_two.Goals as goal

pub has_begun-requires-2-clause-holds : goal.has_begun-requires-2-clause-holds
has_begun-requires-2-clause-holds c κs =
    let leaf : ReadIdle c.args.table.now c.args.root c.args.env 0 c.args.hand.now.me c.has_begun.new.hand.me = record {
      is = c.requires.root.is_node;
      child = ap (λ p. is_child use_tree p 0) c.requires.root.three;
      holds = c.requires.holds;
      calm = c.requires.idle;
      name = c.beside-leaf.result;
      name_is = c.beside-leaf.ensures;
      answer = c.has_begun.result;
      no = c.if-has_begun.false;
      read = c.has_begun.ensures.begun;
    } in
    second-held leaf c.requires.root.three c.beside-branch.result c.beside-branch.ensures

pub await_children-requires-clause-needs : goal.await_children-requires-clause-needs
await_children-requires-clause-needs c κs =
    let leaf : ReadIdle c.args.table.now c.args.root c.args.env 0 c.args.hand.now.me c.has_begun.new.hand.me = record {
      is = c.requires.root.is_node;
      child = ap (λ p. is_child use_tree p 0) c.requires.root.three;
      holds = c.requires.holds;
      calm = c.requires.idle;
      name = c.beside-leaf.result;
      name_is = c.beside-leaf.ensures;
      answer = c.has_begun.result;
      no = c.if-has_begun.false;
      read = c.has_begun.ensures.begun;
    } in
    let both : ReadBoth c.args.table.now c.args.root c.args.env c.args.hand.now.me c.has_begun.new.hand.me c.has_begun-2.new.hand.me = record {
      three = c.requires.root.three;
      leaf = leaf;
      name = c.beside-branch.result;
      name_is = c.beside-branch.ensures;
      answer = c.has_begun-2.result;
      no = c.if-has_begun-2.false;
      read = c.has_begun-2.ensures.begun;
    } in
    root-waits both

pub returns-clause-leaf : goal.returns-clause-leaf
returns-clause-leaf c =
    let leaf : ReadIdle c.args.table.now c.args.root c.args.env 0 c.args.hand.now.me c.has_begun.new.hand.me = record {
      is = c.requires.root.is_node;
      child = ap (λ p. is_child use_tree p 0) c.requires.root.three;
      holds = c.requires.holds;
      calm = c.requires.idle;
      name = c.beside-leaf.result;
      name_is = c.beside-leaf.ensures;
      answer = c.has_begun.result;
      no = c.if-has_begun.false;
      read = c.has_begun.ensures.begun;
    } in
    let both : ReadBoth c.args.table.now c.args.root c.args.env c.args.hand.now.me c.has_begun.new.hand.me c.has_begun-2.new.hand.me = record {
      three = c.requires.root.three;
      leaf = leaf;
      name = c.beside-branch.result;
      name_is = c.beside-branch.ensures;
      answer = c.has_begun-2.result;
      no = c.if-has_begun-2.false;
      read = c.has_begun-2.ensures.begun;
    } in
    leaf-owes both c.await_children.new.hand.me _ _ _ c.await_children.ensures.awaits.did

pub returns-clause-branch : goal.returns-clause-branch
returns-clause-branch c =
    let leaf : ReadIdle c.args.table.now c.args.root c.args.env 0 c.args.hand.now.me c.has_begun.new.hand.me = record {
      is = c.requires.root.is_node;
      child = ap (λ p. is_child use_tree p 0) c.requires.root.three;
      holds = c.requires.holds;
      calm = c.requires.idle;
      name = c.beside-leaf.result;
      name_is = c.beside-leaf.ensures;
      answer = c.has_begun.result;
      no = c.if-has_begun.false;
      read = c.has_begun.ensures.begun;
    } in
    let both : ReadBoth c.args.table.now c.args.root c.args.env c.args.hand.now.me c.has_begun.new.hand.me c.has_begun-2.new.hand.me = record {
      three = c.requires.root.three;
      leaf = leaf;
      name = c.beside-branch.result;
      name_is = c.beside-branch.ensures;
      answer = c.has_begun-2.result;
      no = c.if-has_begun-2.false;
      read = c.has_begun-2.ensures.begun;
    } in
    branch-owed both c.await_children.new.hand.me _ _ _ c.await_children.ensures.awaits.did

pub returns-clause-steps : goal.returns-clause-steps
returns-clause-steps c =
    let board = c.args.table.now in
    on c.args.hand.now.me c.has_begun.new.hand.me c.await_children.new.hand.me
    (child-on board c.beside-leaf.result c.args.hand.now.me c.has_begun.new.hand.me c.has_begun.result c.has_begun.ensures.begun)
    (on c.has_begun.new.hand.me c.has_begun-2.new.hand.me c.await_children.new.hand.me
    (child-on board c.beside-branch.result c.has_begun.new.hand.me c.has_begun-2.new.hand.me c.has_begun-2.result c.has_begun-2.ensures.begun)
    (awaits-on board c.args.root c.has_begun-2.new.hand.me c.await_children.new.hand.me _ _ _ _ c.await_children.ensures.awaits.did))

pub returns-then-has_begun-clause-fault : goal.returns-then-has_begun-clause-fault
returns-then-has_begun-clause-fault c =
    let low = ap (λ (y : Name). y.node) c.beside-leaf.ensures in
    node-at c.args.table.now c.args.hand.now.me c.has_begun.new.hand.me c.args.root c.beside-leaf.result 0 c.beside-leaf.ensures Begun
    (begun-cause c.args.table.now c.beside-leaf.result c.args.hand.now.me c.has_begun.new.hand.me c.has_begun.result c.if-has_begun.true
    c.has_begun.ensures.begun
    (first-held c.args.table.now c.args.root c.requires.root.is_node c.args.env c.args.hand.now.me c.requires.holds c.beside-leaf.result 0
    (ap (λ p. is_child use_tree p 0) c.requires.root.three) c.beside-leaf.ensures)
    (omega (arith, low)))

pub returns-then-has_begun-2-clause-fault : goal.returns-then-has_begun-2-clause-fault
returns-then-has_begun-2-clause-fault c =
    let leaf : ReadIdle c.args.table.now c.args.root c.args.env 0 c.args.hand.now.me c.has_begun.new.hand.me = record {
      is = c.requires.root.is_node;
      child = ap (λ p. is_child use_tree p 0) c.requires.root.three;
      holds = c.requires.holds;
      calm = c.requires.idle;
      name = c.beside-leaf.result;
      name_is = c.beside-leaf.ensures;
      answer = c.has_begun.result;
      no = c.if-has_begun.false;
      read = c.has_begun.ensures.begun;
    } in
    let low = ap (λ (y : Name). y.node) c.beside-branch.ensures in
    let board = c.args.table.now in
    node-within board c.args.hand.now.me c.has_begun.new.hand.me c.has_begun-2.new.hand.me
    (child-on board c.beside-leaf.result c.args.hand.now.me c.has_begun.new.hand.me c.has_begun.result c.has_begun.ensures.begun)
    c.args.root Begun
    (node-at board c.has_begun.new.hand.me c.has_begun-2.new.hand.me c.args.root c.beside-branch.result 2 c.beside-branch.ensures Begun
    (begun-cause board c.beside-branch.result c.has_begun.new.hand.me c.has_begun-2.new.hand.me c.has_begun-2.result c.if-has_begun-2.true
    c.has_begun-2.ensures.begun
    (second-held leaf c.requires.root.three c.beside-branch.result c.beside-branch.ensures)
    (omega (arith, low))))

pub has_begun-requires-clause-holds : goal.has_begun-requires-clause-holds
has_begun-requires-clause-holds c κs =
    first-held c.args.table.now c.args.root c.requires.root.is_node c.args.env c.args.hand.now.me c.requires.holds c.beside-leaf.result 0
    (ap (λ p. is_child use_tree p 0) c.requires.root.three) c.beside-leaf.ensures

pub returns-clause-notes : goal.returns-clause-notes
returns-clause-notes c =
    awaited-notes c.args.table.now c.args.root c.has_begun-2.new.hand.me c.await_children.new.hand.me _ _ _ _ c.await_children.ensures.awaits.did
    ∙ read-notes c.args.table.now c.beside-branch.result c.has_begun.new.hand.me c.has_begun-2.new.hand.me _ c.has_begun-2.ensures.begun
    ∙ read-notes c.args.table.now c.beside-leaf.result c.args.hand.now.me c.has_begun.new.hand.me _ c.has_begun.ensures.begun

pub returns-then-has_begun-clause-notes : goal.returns-then-has_begun-clause-notes
returns-then-has_begun-clause-notes c =
    read-notes c.args.table.now c.beside-leaf.result c.args.hand.now.me c.has_begun.new.hand.me _ c.has_begun.ensures.begun

pub returns-then-has_begun-2-clause-notes : goal.returns-then-has_begun-2-clause-notes
returns-then-has_begun-2-clause-notes c =
    read-notes c.args.table.now c.beside-branch.result c.has_begun.new.hand.me c.has_begun-2.new.hand.me _ c.has_begun-2.ensures.begun
    ∙ read-notes c.args.table.now c.beside-leaf.result c.args.hand.now.me c.has_begun.new.hand.me _ c.has_begun.ensures.begun
