use Rattle.std.proofs.Common.{◌==◌, arith, sym, ap, ◌∙◌}
use prog.Atomic.{either}
use Rattle.table_hands_kept.proofs.Hands.{hand-listed}
use Rattle.table_kept.proofs.Masks.{written-narrow, seal-left}
use Rattle.table_scope_kept.proofs.ScopeAllowed.{seals_allowed}
use Rattle.op_table.proofs.table.OpTable.seal_at.Goals as goal

pub compare_exchange-word-requires-clause-table : goal.compare_exchange-word-requires-clause-table
compare_exchange-word-requires-clause-table g c =
    c.requires.table.table_is ∙ sym (ap (λ b. b.table_id) c.self.view_is)

pub compare_exchange-word-requires-clause-within : goal.compare_exchange-word-requires-clause-within
compare_exchange-word-requires-clause-within g c =
    let counts = c.self.invariant.2 in
    omega (arith, counts)

pub compare_exchange-word-requires-clause-allows : goal.compare_exchange-word-requires-clause-allows
compare_exchange-word-requires-clause-allows g c =
    seals_allowed g.P.Cargo c.self.inside.table.key _ c.args.seat.now.id c.args.seat.now.me
    c.args.expected c.scope_number-old.result c.scope_number-new.result c.requires.seals c.scope_number-old.ensures.reads c.scope_number-new.ensures.reads
    (written-narrow _ c.scope_number-new.result c.scope_number-new.ensures.value c.scope_number-new.ensures.reads) c.requires.table.seated.itself

pub returns-clause-stays : goal.returns-clause-stays
returns-clause-stays g c =
    hand-listed c.args.self.now c.args.seat.now c.compare_exchange-word.new.hand c.requires.table (c.compare_exchange-word.ensures.0, c.compare_exchange-word.ensures.1)
    0 c.compare_exchange-word.result _ c.compare_exchange-word.ensures.2.rest.me_is

pub returns-clause-sealed : goal.returns-clause-sealed
returns-clause-sealed g c =
    let word = c.compare_exchange-word.result in
    let told = c.compare_exchange-word.ensures.2.rest in
    record {
      word = word;
      left = either (word == c.scope_number-old.result) c.scope_number-new.result word;
      me_is = told.me_is;
      cause = seal-left word c.scope_number-old.result c.scope_number-new.result c.args.expected c.scope_number-old.ensures.value
          c.scope_number-new.ensures.reads told.narrow c.sealed_as.result c.sealed_as.ensures;
      bits = told.bits;
    }
