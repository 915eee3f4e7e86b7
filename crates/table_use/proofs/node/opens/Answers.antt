use Rattle.table_use.proofs.Opening.{Opens, start-fits, start-puts, start-holds, start-beside, start-number, start-notes, start-noted}
use Rattle.table_use.proofs.Steps.{on, swapped-on, begun-on}
use Rattle.table_use.proofs.node.opens.Goals as goal

pub put_home-requires-clause-needs : goal.put_home-requires-clause-needs
put_home-requires-clause-needs c κs =
    start-puts c.args.table.now c.args.x c.requires.node c.args.env c.args.hand.now.me c.requires.owes

pub begin-requires-clause-needs : goal.begin-requires-clause-needs
begin-requires-clause-needs c κs =
    c.put_home.ensures.begins (start-fits c.args.table.now c.args.x c.requires.node c.args.env c.args.hand.now.me c.requires.owes)

pub returns-clause-holds : goal.returns-clause-holds
returns-clause-holds c =
    let opens : Opens c.args.table.now c.args.x c.args.env c.args.hand.now.me c.put_home.new.hand.me c.begin.new.hand.me = record {
      is = c.requires.node;
      owes = c.requires.owes;
      put = c.put_home.ensures.put;
      began = c.begin.ensures.begun;
    } in
    start-holds opens

pub returns-clause-beside : goal.returns-clause-beside
returns-clause-beside c =
    let opens : Opens c.args.table.now c.args.x c.args.env c.args.hand.now.me c.put_home.new.hand.me c.begin.new.hand.me = record {
      is = c.requires.node;
      owes = c.requires.owes;
      put = c.put_home.ensures.put;
      began = c.begin.ensures.begun;
    } in
    start-beside opens

pub returns-clause-notes : goal.returns-clause-notes
returns-clause-notes c =
    let opens : Opens c.args.table.now c.args.x c.args.env c.args.hand.now.me c.put_home.new.hand.me c.begin.new.hand.me = record {
      is = c.requires.node;
      owes = c.requires.owes;
      put = c.put_home.ensures.put;
      began = c.begin.ensures.begun;
    } in
    start-notes opens

pub returns-clause-noted : goal.returns-clause-noted
returns-clause-noted c =
    let opens : Opens c.args.table.now c.args.x c.args.env c.args.hand.now.me c.put_home.new.hand.me c.begin.new.hand.me = record {
      is = c.requires.node;
      owes = c.requires.owes;
      put = c.put_home.ensures.put;
      began = c.begin.ensures.begun;
    } in
    start-noted opens

pub returns-clause-steps : goal.returns-clause-steps
returns-clause-steps c =
    on c.args.hand.now.me c.put_home.new.hand.me c.begin.new.hand.me
    (swapped-on c.args.table.now c.args.x c.args.hand.now.me c.put_home.new.hand.me _ _ c.put_home.ensures.put)
    (begun-on c.args.table.now c.args.x c.put_home.new.hand.me c.begin.new.hand.me c.begin.ensures.begun)

pub returns-clause-number : goal.returns-clause-number
returns-clause-number c =
    let opens : Opens c.args.table.now c.args.x c.args.env c.args.hand.now.me c.put_home.new.hand.me c.begin.new.hand.me = record {
      is = c.requires.node;
      owes = c.requires.owes;
      put = c.put_home.ensures.put;
      began = c.begin.ensures.begun;
    } in
    start-number opens
