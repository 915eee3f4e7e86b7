use Rattle.std.specs.Prelude.{Some}
use Rattle.std.proofs.lemmas.List.Elements.{All-pop}
use Rattle.table_use.specs.Members.{MayAssociate}
use Rattle.table_tests.proofs.tests.opening.next_of.Goals as goal

pub returns-in-Some-clause-left : goal.returns-in-Some-clause-left
returns-in-Some-clause-left c =
    (All-pop (MayAssociate c.args.table.now) c.args.hands.now.items c.pop.new.self.items (Some c.in-Some.hand)
    c.in-Some.ensures.items c.requires).0

pub returns-in-Some-clause-ready : goal.returns-in-Some-clause-ready
returns-in-Some-clause-ready c =
    (All-pop (MayAssociate c.args.table.now) c.args.hands.now.items c.pop.new.self.items (Some c.in-Some.hand)
    c.in-Some.ensures.items c.requires).1
