use Rattle.std.proofs.Common.{◌≡◌, [], ap, ◌∙◌, subst}
use Rattle.std.specs.Prelude.{IfSome, MatchOption}
use Rattle.table_steps.specs.Owing.{Owes}
use Rattle.table_kept.proofs.Remembering.{IsLaid, tells-owed, tells-place}
use Rattle.op_table.specs.LowestOwed.{IsLowestOwed}
use Rattle.op_table.proofs.LowestOwed.{tells-lowest}
use Rattle.op_table.proofs.table.OpTable.owed.Goals as goal

pub returns-clause-owes : goal.returns-clause-owes
returns-clause-owes g c =
    subst (λ s. MatchOption c.first.result (s.me.0.owed ≡ []) (Owes s.me.0)) c.hand.view_is
    (tells-owed c.hand.inside.seat c.hand.inside.owed c.hand.invariant c.first.result c.first.ensures)

pub returns-clause-place : goal.returns-clause-place
returns-clause-place g c =
    tells-place c.hand.invariant.owed c.args.self.now
    (subst IsLaid c.self.view_is (record { words = c.self.invariant.2; slots = c.self.invariant.3 }))
    (ap (λ s. s.table_id) c.hand.view_is ∙ c.requires.table.table_is) c.first.result c.first.ensures

pub returns-clause-lowest : goal.returns-clause-lowest
returns-clause-lowest g c =
    subst (λ s. IfSome c.first.result (IsLowestOwed c.args.self.now.frame.layout s.me.0)) c.hand.view_is
    (tells-lowest c.args.self.now (subst IsLaid c.self.view_is (record { words = c.self.invariant.2; slots = c.self.invariant.3 }))
    c.hand.inside.seat c.hand.inside.owed c.hand.invariant (ap (λ s. s.table_id) c.hand.view_is ∙ c.requires.table.table_is)
    c.first.result c.first.ensures)
