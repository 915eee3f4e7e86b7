use Rattle.std.specs.Prelude.{Some, None}
use Rattle.op_slot.proofs.Loans.{if-there}
use Rattle.op_slot.proofs.Moved.{begins-then}
use Rattle.op_slot.proofs.homes.put_home.Goals as goal

pub home_mut-requires-clause-home : goal.home_mut-requires-clause-home
home_mut-requires-clause-home g c = λ κs _. record { inside = None; home = c.requires.needs.home }

pub returns-clause-stays : goal.returns-clause-stays
returns-clause-stays g c = (if-there _ (c.home_mut.follows.holds (Some c.args.item)) c.in-Some.is).stays

pub returns-clause-put : goal.returns-clause-put
returns-clause-put g c =
    let left = (if-there _ (c.home_mut.follows.holds (Some c.args.item)) c.in-Some.is).swapped in
    record { word = left.word; home = c.requires.needs.home; me_is = left.me_is }

pub returns-clause-begins : goal.returns-clause-begins
returns-clause-begins g c =
    let left = (if-there _ (c.home_mut.follows.holds (Some c.args.item)) c.in-Some.is).swapped in
    begins-then c.args.table.now.frame c.args.name g.P.Cargo c.args.item c.args.hand.now.me
    (c.home_mut.follows.lender (Some c.args.item)).me
    (record { word = left.word; home = c.requires.needs.home; me_is = left.me_is })
