use Rattle.std.proofs.Common.{◌≤◌, arith, sym, ap, ◌∙◌, subst}
use Rattle.table_words.specs.ScopeNumbers.{scope_read}
use Rattle.table_rules.specs.declared.frame.TheConstants.{MOST_ASSOCIATIONS}
use Rattle.table_steps.specs.Slots.{IsSeated}
use Rattle.table_steps.specs.Claims.{with_step}
use Rattle.table_steps.specs.Lefts.{plus_one}
use Rattle.table_steps.specs.ScopeMoves.{with_one_more}
use Rattle.table_steps.specs.ScopeEntries.{enters}
use Rattle.table_hands_kept.proofs.Hands.{hand-seated}
use Rattle.table_scope_kept.proofs.EnterRuns.{enters-at, entered-seated}
use Rattle.op_table.proofs.table.OpTable.enter_at.Goals as goal

pub fetch_add-word-requires-clause-table : goal.fetch_add-word-requires-clause-table
fetch_add-word-requires-clause-table g c =
    c.requires.table.table_is ∙ sym (ap (λ b. b.table_id) c.self.view_is)

pub fetch_add-word-requires-clause-within : goal.fetch_add-word-requires-clause-within
fetch_add-word-requires-clause-within g c =
    let counts = c.self.invariant.2 in
    omega (arith, counts)

pub fetch_add-word-requires-clause-allows : goal.fetch_add-word-requires-clause-allows
fetch_add-word-requires-clause-allows g c =
    enters-at g.P.Cargo c.args.self.now.frame c.self.inside.table.key _ c.args.seat.now.id g.K.Room.most c.args.seat.now.me
    (sym (ap (λ b. b.frame) c.self.view_is) ∙ sym c.self.invariant.0)
    c.requires.room (subst (λ b. b.frame.most ≤ MOST_ASSOCIATIONS) c.self.view_is c.self.invariant.1.most) c.requires.enters c.requires.table.seated.itself

pub returns-clause-stays : goal.returns-clause-stays
returns-clause-stays g c =
    let b = c.args.self.now in
    hand-seated b c.args.seat.now c.fetch_add-word.new.hand c.requires.table (c.fetch_add-word.ensures.0, c.fetch_add-word.ensures.1)
    (subst (IsSeated b.frame.tree b.frame.layout) (sym c.fetch_add-word.ensures.2.rest.me_is)
    (entered-seated b.frame.tree b.frame.layout g.K.Room.most 0 c.fetch_add-word.result (plus_one c.fetch_add-word.result) c.args.seat.now.me c.requires.table.seated))

pub returns-clause-entered : goal.returns-clause-entered
returns-clause-entered g c =
    let word = c.fetch_add-word.result in
    let m = c.args.seat.now.me in
    record {
      read = word;
      answer_is = c.read_scope.ensures;
      left = plus_one word;
      left_is = c.fetch_add-word.ensures.2.rest.left_is ∙ ap with_one_more (sym c.read_scope.ensures);
      me_is = c.fetch_add-word.ensures.2.rest.me_is
          ∙ ap (λ most. (with_step 0 word (plus_one word) (enters most (scope_read word) m.0), m.1)) c.requires.room
          ∙ ap (λ w. (with_step 0 word (plus_one word) (enters c.args.self.now.frame.most w m.0), m.1)) (sym c.read_scope.ensures);
    }
