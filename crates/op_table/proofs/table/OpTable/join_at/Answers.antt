use Rattle.std.proofs.Common.{◌^◌, arith, sym, ap, ◌∙◌}
use Rattle.std.specs.Prelude.{bit_or}
use Rattle.table_steps.specs.ScopeSets.{joining}
use Rattle.table_kept.proofs.Masks.{reads-joining}
use Rattle.table_hands_kept.proofs.Hands.{hand-listed}
use Rattle.table_scope_kept.proofs.ScopeLeft.{sets-joining}
use Rattle.op_table.proofs.table.OpTable.join_at.Goals as goal

pub fetch_or-word-requires-clause-table : goal.fetch_or-word-requires-clause-table
fetch_or-word-requires-clause-table g c =
    c.requires.table.table_is ∙ sym (ap (λ b. b.table_id) c.self.view_is)

pub fetch_or-word-requires-clause-within : goal.fetch_or-word-requires-clause-within
fetch_or-word-requires-clause-within g c =
    let counts = c.self.invariant.2 in
    omega (arith, counts)

pub fetch_or-word-requires-clause-allows : goal.fetch_or-word-requires-clause-allows
fetch_or-word-requires-clause-allows g c =
    sets-joining g.P.Cargo c.self.inside.table.key _ c.args.seat.now.id c.args.seat.now.me c.requires.table.seated.itself

pub returns-clause-stays : goal.returns-clause-stays
returns-clause-stays g c =
    hand-listed c.args.self.now c.args.seat.now c.fetch_or-word.new.hand c.requires.table (c.fetch_or-word.ensures.0, c.fetch_or-word.ensures.1)
    0 c.fetch_or-word.result (bit_or c.fetch_or-word.result (2 ^ 34)) c.fetch_or-word.ensures.2.rest

pub returns-clause-joins : goal.returns-clause-joins
returns-clause-joins g c =
    let read = c.fetch_or-word.result in
    record {
      read = read;
      answer_is = c.read_scope.ensures;
      left = bit_or read (2 ^ 34);
      left_is = reads-joining read ∙ ap joining (sym c.read_scope.ensures);
      me_is = c.fetch_or-word.ensures.2.rest;
    }
