use Rattle.std.proofs.Common.{arith, ap, ◌∙◌}
use Rattle.life_rules.specs.declared.event.Name.{Name}
use Rattle.table_use.specs.declared.node.Fault.TheVariants.{Begun}
use Rattle.table_use.proofs.Nodes.{use-low-kid}
use Rattle.table_use.proofs.Noted.{read-notes, awaited-notes}
use Rattle.table_use.proofs.Waiting.{ReadIdle, first-held, one-waits, one-owes}
use Rattle.table_use.proofs.Steps.{on, child-on, awaits-on}
use Rattle.table_use.proofs.Readings.{begun-cause}
use Rattle.table_use.proofs.Reasons.{node-at}
use Rattle.table_use.proofs.starting.awaits_one.Goals as goal

pub has_begun-requires-clause-holds : goal.has_begun-requires-clause-holds
has_begun-requires-clause-holds c κs =
    first-held c.args.table.now c.args.x c.requires.node c.args.env c.args.hand.now.me c.requires.holds c.beside-child.result c.args.node
    c.requires.child c.beside-child.ensures

pub await_children-requires-clause-needs : goal.await_children-requires-clause-needs
await_children-requires-clause-needs c κs =
    let idle : ReadIdle c.args.table.now c.args.x c.args.env c.args.node c.args.hand.now.me c.has_begun.new.hand.me = record {
      is = c.requires.node;
      child = c.requires.child;
      holds = c.requires.holds;
      calm = c.requires.idle;
      name = c.beside-child.result;
      name_is = c.beside-child.ensures;
      answer = c.has_begun.result;
      no = c.if-has_begun.false;
      read = c.has_begun.ensures.begun;
    } in
    one-waits idle

pub returns-clause-owes : goal.returns-clause-owes
returns-clause-owes c =
    let idle : ReadIdle c.args.table.now c.args.x c.args.env c.args.node c.args.hand.now.me c.has_begun.new.hand.me = record {
      is = c.requires.node;
      child = c.requires.child;
      holds = c.requires.holds;
      calm = c.requires.idle;
      name = c.beside-child.result;
      name_is = c.beside-child.ensures;
      answer = c.has_begun.result;
      no = c.if-has_begun.false;
      read = c.has_begun.ensures.begun;
    } in
    one-owes idle c.await_children.new.hand.me _ _ _ c.await_children.ensures.awaits.did

pub returns-clause-steps : goal.returns-clause-steps
returns-clause-steps c =
    on c.args.hand.now.me c.has_begun.new.hand.me c.await_children.new.hand.me
    (child-on c.args.table.now c.beside-child.result c.args.hand.now.me c.has_begun.new.hand.me c.has_begun.result c.has_begun.ensures.begun)
    (awaits-on c.args.table.now c.args.x c.has_begun.new.hand.me c.await_children.new.hand.me _ _ _ _ c.await_children.ensures.awaits.did)

pub returns-clause-notes : goal.returns-clause-notes
returns-clause-notes c =
    awaited-notes c.args.table.now c.args.x c.has_begun.new.hand.me c.await_children.new.hand.me _ _ _ _ c.await_children.ensures.awaits.did
    ∙ read-notes c.args.table.now c.beside-child.result c.args.hand.now.me c.has_begun.new.hand.me _ c.has_begun.ensures.begun

pub returns-then-has_begun-clause-notes : goal.returns-then-has_begun-clause-notes
returns-then-has_begun-clause-notes c =
    read-notes c.args.table.now c.beside-child.result c.args.hand.now.me c.has_begun.new.hand.me _ c.has_begun.ensures.begun

pub returns-then-has_begun-clause-fault : goal.returns-then-has_begun-clause-fault
returns-then-has_begun-clause-fault c =
    let is = ap (λ (y : Name). y.node) c.beside-child.ensures in
    let low = use-low-kid c.args.x.node c.args.node c.requires.child in
    node-at c.args.table.now c.args.hand.now.me c.has_begun.new.hand.me c.args.x c.beside-child.result c.args.node c.beside-child.ensures Begun
    (begun-cause c.args.table.now c.beside-child.result c.args.hand.now.me c.has_begun.new.hand.me c.has_begun.result c.if-has_begun.true
    c.has_begun.ensures.begun
    (first-held c.args.table.now c.args.x c.requires.node c.args.env c.args.hand.now.me c.requires.holds c.beside-child.result c.args.node
    c.requires.child c.beside-child.ensures)
    (omega (arith, is, low)))
