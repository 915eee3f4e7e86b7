use Rattle.std.proofs.Common.{refl, ◌∙◌}
use Rattle.op_slot.proofs.Searching.{searched-found}
use Rattle.op_slot.proofs.Found.{found-owes}
use Rattle.table_use.proofs.Nodes.{named-root}
use Rattle.table_use.proofs.Waiting.{searched-plays, found-plays, plays-on, searched-number, found-number, claimed-owes}
use Rattle.table_use.proofs.Readings.{claimed-free}
use Rattle.table_use.proofs.starting.begins.Goals as goal

pub returns-in-Some-clause-plays : goal.returns-in-Some-clause-plays
returns-in-Some-clause-plays c =
    let found = searched-found c.args.table.now c.args.hand.now c.claim_any.new.hand c.claim_any.result c.in-Some.block c.in-Some.is
    c.claim_any.ensures.claimed in
    plays-on c.args.hand.now.me c.claim_any.new.hand.me c.opens.new.hand.me
    (found-plays c.args.table.now c.in-Some.block c.args.hand.now c.claim_any.new.hand found) c.opens.ensures.still.plays

pub returns-in-None-clause-plays : goal.returns-in-None-clause-plays
returns-in-None-clause-plays c =
    searched-plays c.args.table.now _ c.args.hand.now c.claim_any.new.hand c.in-None.ensures.claimed

pub opens-requires-clause-node : goal.opens-requires-clause-node
opens-requires-clause-node c =
    (named-root c.args.table.now c.root-root.result c.in-Some.block.index c.in-Some.block.generation c.requires.tree
    c.root-root.ensures.place c.root-root.ensures.name).is_node

pub returns-in-Some-clause-root : goal.returns-in-Some-clause-root
returns-in-Some-clause-root c =
    record {
      is_root = named-root c.args.table.now c.root-root.result c.in-Some.block.index c.in-Some.block.generation c.requires.tree
          c.root-root.ensures.place c.root-root.ensures.name;
      within = (searched-found c.args.table.now c.args.hand.now c.claim_any.new.hand c.claim_any.result c.in-Some.block c.in-Some.is
          c.claim_any.ensures.claimed).within;
      name = c.root-root.ensures.name;
    }

pub returns-in-Some-clause-free : goal.returns-in-Some-clause-free
returns-in-Some-clause-free c =
    claimed-free c.args.table.now c.in-Some.block c.args.hand.now c.claim_any.new.hand
    (searched-found c.args.table.now c.args.hand.now c.claim_any.new.hand c.claim_any.result c.in-Some.block c.in-Some.is c.claim_any.ensures.claimed)
    c.root-root.result c.root-root.ensures.name c.opens.new.hand.me c.opens.ensures.steps

pub returns-in-None-clause-fault : goal.returns-in-None-clause-fault
returns-in-None-clause-fault c = (refl, c.in-None.ensures.claimed)

pub root-root-requires-after_bounds : goal.root-root-requires-after_bounds
root-root-requires-after_bounds c κs =
    (searched-found c.args.table.now c.args.hand.now c.claim_any.new.hand c.claim_any.result c.in-Some.block c.in-Some.is
    c.claim_any.ensures.claimed).within

pub opens-requires-clause-owes : goal.opens-requires-clause-owes
opens-requires-clause-owes c =
    let found = searched-found c.args.table.now c.args.hand.now c.claim_any.new.hand c.claim_any.result c.in-Some.block c.in-Some.is
    c.claim_any.ensures.claimed in
    let root = named-root c.args.table.now c.root-root.result c.in-Some.block.index c.in-Some.block.generation c.requires.tree
    c.root-root.ensures.place c.root-root.ensures.name in
    claimed-owes c.args.table.now c.root-root.result c.args.env c.claim_any.new.hand.me root.three c.requires.node c.requires.step
    (found-owes c.args.table.now c.in-Some.block c.args.hand.now c.claim_any.new.hand found c.root-root.result c.root-root.ensures.name)

pub returns-in-Some-clause-noted : goal.returns-in-Some-clause-noted
returns-in-Some-clause-noted c =
    c.opens.ensures.noted (named-root c.args.table.now c.root-root.result c.in-Some.block.index c.in-Some.block.generation c.requires.tree
    c.root-root.ensures.place c.root-root.ensures.name).three

pub returns-in-Some-clause-number : goal.returns-in-Some-clause-number
returns-in-Some-clause-number c =
    c.opens.ensures.number
    ∙ found-number c.args.table.now c.in-Some.block c.args.hand.now c.claim_any.new.hand
    (searched-found c.args.table.now c.args.hand.now c.claim_any.new.hand c.claim_any.result c.in-Some.block c.in-Some.is c.claim_any.ensures.claimed)

pub returns-in-None-clause-number : goal.returns-in-None-clause-number
returns-in-None-clause-number c =
    searched-number c.args.table.now _ c.args.hand.now c.claim_any.new.hand c.in-None.ensures.claimed
