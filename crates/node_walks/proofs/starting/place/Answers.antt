use Rattle.std.proofs.Common.{sym, subst}
use Rattle.life_rules.specs.declared.event.Name.{Name}
use Rattle.table_steps.specs.Claims.{root_name}
use Rattle.op_slot.specs.Puts.{CanPut, IsPut}
use Rattle.op_slot.proofs.Staying.{stays-on}
use Rattle.home_items.specs.contracts.item.ItemCargo.TheImpl.{ghosts}
use Rattle.home_items.specs.declared.item.Item.{Item}
use Rattle.home_items.specs.Contents.{Start}
use Rattle.node_walks.proofs.Claimed.{HasClaimed, claimed-puts, is-placed}
use Rattle.node_walks.proofs.starting.place.Goals as goal

pub put_home-requires-clause-needs : goal.put_home-requires-clause-needs
put_home-requires-clause-needs c κs =
    let board = c.args.table.now in
    let b = c.in-Some.block in
    let root = root_name board b.index b.generation in
    let new = c.claim_from.new.hand in
    let did : HasClaimed board b c.args.env c.args.hand.now new = record {
      over = c.requires.over;
      run = c.requires.start;
      rests = c.requires.rests;
      from = c.args.from;
      found = c.in-Some.ensures.claimed;
    } in
    subst (λ (i : Item). CanPut ghosts board.frame new.me c.root.result i) (sym c.starting.ensures)
    (subst (λ (x : Name). CanPut ghosts board.frame new.me x (Start c.args.env)) (sym {b = root} c.root.ensures.name)
    (claimed-puts board b c.args.env c.args.hand.now new did))

pub returns-clause-stays : goal.returns-clause-stays
returns-clause-stays c =
    stays-on c.args.table.now c.args.hand.now c.claim_from.new.hand c.put_home.new.hand c.claim_from.ensures.stays c.put_home.ensures.stays

pub returns-clause-placed : goal.returns-clause-placed
returns-clause-placed c =
    let board = c.args.table.now in
    let b = c.in-Some.block in
    let new = c.claim_from.new.hand in
    let did : HasClaimed board b c.args.env c.args.hand.now new = record {
      over = c.requires.over;
      run = c.requires.start;
      rests = c.requires.rests;
      from = c.args.from;
      found = c.in-Some.ensures.claimed;
    } in
    let put = subst (λ (x : Name). IsPut board.frame x (Start c.args.env) new.me c.put_home.new.hand.me) c.root.ensures.name
    (subst (λ (i : Item). IsPut board.frame c.root.result i new.me c.put_home.new.hand.me) c.starting.ensures c.put_home.ensures.put) in
    is-placed board b c.args.env c.args.hand.now new did c.put_home.new.hand.me put

pub returns-clause-only : goal.returns-clause-only
returns-clause-only c =
    let board = c.args.table.now in
    let b = c.in-Some.block in
    let new = c.claim_from.new.hand in
    let put = subst (λ (x : Name). IsPut board.frame x (Start c.args.env) new.me c.put_home.new.hand.me) c.root.ensures.name
    (subst (λ (i : Item). IsPut board.frame c.root.result i new.me c.put_home.new.hand.me) c.starting.ensures c.put_home.ensures.put) in
    record { claimed = new; found = c.in-Some.ensures.claimed; put = put }
