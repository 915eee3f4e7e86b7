use Rattle.std.proofs.Common.{arith, sym, ap, ◌∙◌, subst}
use Rattle.table_steps.specs.Slots.{IsSeated}
use Rattle.table_steps.specs.Lefts.{less_one}
use Rattle.table_steps.specs.ScopeMoves.{with_one_less}
use Rattle.table_hands_kept.proofs.Hands.{hand-seated}
use Rattle.table_scope_kept.proofs.ScopeAllowed.{leaves_allowed, left-seated}
use Rattle.op_table.proofs.table.OpTable.leave_at.Goals as goal

pub fetch_sub-word-requires-clause-table : goal.fetch_sub-word-requires-clause-table
fetch_sub-word-requires-clause-table g c =
    c.requires.table.table_is ∙ sym (ap (λ b. b.table_id) c.self.view_is)

pub fetch_sub-word-requires-clause-within : goal.fetch_sub-word-requires-clause-within
fetch_sub-word-requires-clause-within g c =
    let counts = c.self.invariant.2 in
    omega (arith, counts)

pub fetch_sub-word-requires-clause-allows : goal.fetch_sub-word-requires-clause-allows
fetch_sub-word-requires-clause-allows g c =
    leaves_allowed g.P.Cargo c.self.inside.table.key _ c.args.seat.now.id c.args.seat.now.me c.requires.leaves c.requires.table.seated.itself

pub returns-clause-stays : goal.returns-clause-stays
returns-clause-stays g c =
    let b = c.args.self.now in
    hand-seated b c.args.seat.now c.fetch_sub-word.new.hand c.requires.table (c.fetch_sub-word.ensures.0, c.fetch_sub-word.ensures.1)
    (subst (IsSeated b.frame.tree b.frame.layout) (sym c.fetch_sub-word.ensures.2.rest.me_is)
    (left-seated b.frame.tree b.frame.layout c.fetch_sub-word.result (less_one c.fetch_sub-word.result) c.args.seat.now.me c.requires.table.seated))

pub returns-clause-left : goal.returns-clause-left
returns-clause-left g c =
    let told = c.fetch_sub-word.ensures.2.rest in
    record {
      read = c.fetch_sub-word.result;
      answer_is = c.read_scope.ensures;
      left = less_one c.fetch_sub-word.result;
      left_is = told.left_is ∙ ap with_one_less (sym c.read_scope.ensures);
      me_is = told.me_is;
    }
