use Rattle.std.proofs.Common.{ap, ◌∙◌, subst}
use Rattle.table_kept.proofs.Remembering.{IsLaid, remembers-none}
use Rattle.op_table.proofs.table.OpTable.hand_on.Goals as goal

pub invariant_of-result : goal.invariant_of-result
invariant_of-result g c =
    let layout = ap (λ b. b.frame.layout) c.self.view_is in
    remembers-none c.args.self.now
    (subst IsLaid c.self.view_is (record { words = c.self.invariant.2; slots = c.self.invariant.3 }))
    c.args.seat c.in_ok-owed.owed c.in_ok-runs.runs c.requires.seat (c.in_ok-owed.ensures.layout ∙ layout)
    c.in_ok-owed.ensures.empty (c.in_ok-runs.ensures.layout ∙ layout) c.in_ok-runs.ensures.empty
