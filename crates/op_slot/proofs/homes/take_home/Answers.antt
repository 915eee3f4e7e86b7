use Rattle.std.proofs.Common.{sym, subst}
use Rattle.table_steps.specs.Swaps.{IsSwapped}
use Rattle.op_slot.proofs.Loans.{if-there}
use Rattle.op_slot.proofs.homes.take_home.Goals as goal

pub returns-clause-stays : goal.returns-clause-stays
returns-clause-stays g c = (if-there _ (c.home_mut.follows.holds c.take.new.self) c.in-Some.is).stays

pub returns-clause-taken : goal.returns-clause-taken
returns-clause-taken g c =
    let left = (if-there _ (c.home_mut.follows.holds c.take.new.self) c.in-Some.is).swapped in
    let f = c.args.table.now.frame in
    let hand = c.home_mut.follows.lender c.take.new.self in
    subst (λ z. IsSwapped f c.args.name z c.take.result c.args.hand.now.me hand.me) c.take.ensures.after
    (subst (λ z. IsSwapped f c.args.name c.take.new.self z c.args.hand.now.me hand.me) (sym c.take.ensures.value) left)
