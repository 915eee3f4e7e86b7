use Rattle.std.proofs.Common.{sym, ap, ◌∙◌, subst}
use Rattle.table_steps.specs.Views.{IsHandOf, Stays, knows}
use Rattle.table_steps.specs.Readings.{above_it, HoldsAbove, IsBegunAs, IsIdleStill}
use Rattle.op_table.proofs.Remembered.{alike-read, remembers-still}
use Rattle.op_table.proofs.table.OpTable.has_begun.Goals as goal

pub read_child-requires-clause-table : goal.read_child-requires-clause-table
read_child-requires-clause-table g c κs _ =
    subst (IsHandOf c.args.self.now) (sym c.hand.view_is) c.requires.table

pub read_child-requires-clause-holds : goal.read_child-requires-clause-holds
read_child-requires-clause-holds g c κs _ =
    subst (λ s. HoldsAbove c.args.self.now.frame.tree (knows s) c.args.child)
    (sym c.hand.view_is) c.requires.holds

pub invariant_of-hand : goal.invariant_of-hand
invariant_of-hand g c =
    let is = c.read_child.ensures.begun.2 in
    let same = alike-read (above_it c.args.self.now.frame.tree c.args.child) c.args.child.node
    c.args.child.generation c.read_child.ensures.begun.0 c.hand.inside.seat.me.0 in
    remembers-still c.hand.invariant c.read_child.ensures.stays.same.0
    (ap (λ m. m.0.owed) is ∙ same.0, ap (λ m. m.0.runs) is ∙ same.1)

pub returns-clause-stays : goal.returns-clause-stays
returns-clause-stays g c =
    subst (λ s. Stays c.args.self.now s c.read_child.new.seat)
    c.hand.view_is c.read_child.ensures.stays

pub returns-clause-begun : goal.returns-clause-begun
returns-clause-begun g c =
    subst (λ s. IsBegunAs c.args.self.now.frame c.args.child c.read_child.result s.me
    c.read_child.new.seat.me)
    c.hand.view_is c.read_child.ensures.begun

pub returns-clause-idle : goal.returns-clause-idle
returns-clause-idle g c =
    subst (λ s. IsIdleStill c.args.self.now.frame c.args.child c.read_child.result s.me)
    c.hand.view_is c.read_child.ensures.idle
