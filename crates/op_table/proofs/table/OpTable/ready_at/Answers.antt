use Rattle.std.proofs.Common.{sym, ap, subst}
use Rattle.table_steps.specs.Views.{IsHandOf}
use Rattle.op_table.proofs.Remembered.{remembers-still}
use Rattle.op_table.proofs.table.OpTable.ready_at.Goals as goal

pub control_word-word-requires-clause-table : goal.control_word-word-requires-clause-table
control_word-word-requires-clause-table g c κs _ =
    subst (IsHandOf c.args.self.now) (sym c.hand.view_is) c.requires.table

pub invariant_of-hand : goal.invariant_of-hand
invariant_of-hand g c =
    let is = c.control_word-word.ensures.read in
    remembers-still c.hand.invariant c.control_word-word.ensures.stays.same.0
    (ap (λ m. m.0.owed) is, ap (λ m. m.0.runs) is)
