use Rattle.std.proofs.Common.{◌^◌, arith, refl, sym, ap, ◌∙◌, subst}
use Rattle.std.specs.Prelude.{bit_or}
use Rattle.table_words.specs.ScopeNumbers.{scope_read}
use Rattle.table_steps.specs.Slots.{IsSeated}
use Rattle.table_hands_kept.proofs.Hands.{hand-seated}
use Rattle.table_scope_kept.proofs.ScopeAllowed.{makes_allowed, made-seated}
use Rattle.op_table.proofs.table.OpTable.mark_used_at.Goals as goal

pub fetch_or-word-requires-clause-table : goal.fetch_or-word-requires-clause-table
fetch_or-word-requires-clause-table g c =
    c.requires.table.table_is ∙ sym (ap (λ b. b.table_id) c.self.view_is)

pub fetch_or-word-requires-clause-within : goal.fetch_or-word-requires-clause-within
fetch_or-word-requires-clause-within g c =
    let counts = c.self.invariant.2 in
    omega (arith, counts)

pub fetch_or-word-requires-clause-allows : goal.fetch_or-word-requires-clause-allows
fetch_or-word-requires-clause-allows g c =
    makes_allowed g.P.Cargo c.self.inside.table.key _ c.args.seat.now.id c.args.seat.now.me c.requires.making c.requires.table.seated.itself

pub returns-clause-stays : goal.returns-clause-stays
returns-clause-stays g c =
    let b = c.args.self.now in
    hand-seated b c.args.seat.now c.fetch_or-word.new.hand c.requires.table (c.fetch_or-word.ensures.0, c.fetch_or-word.ensures.1)
    (subst (IsSeated b.frame.tree b.frame.layout) (sym c.fetch_or-word.ensures.2.rest.me_is)
    (made-seated b.frame.tree b.frame.layout c.fetch_or-word.result (bit_or c.fetch_or-word.result (2 ^ 32)) c.args.seat.now.me c.requires.table.seated))

pub returns-clause-made : goal.returns-clause-made
returns-clause-made g c =
    let read = c.fetch_or-word.result in
    let told = c.fetch_or-word.ensures.2.rest in (
      scope_read read,
      record { read = read; answer_is = refl; left = bit_or read (2 ^ 32); left_is = told.left_is; me_is = told.me_is },
    )
