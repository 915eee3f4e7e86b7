use Rattle.std.proofs.Common.{arith, sym, ap, ◌∙◌}
use Rattle.table_hands_kept.proofs.Hands.{hand-logged}
use Rattle.table_kept.proofs.Loads.{looks_allowed}
use Rattle.op_table.proofs.table.OpTable.scope_at.Goals as goal

pub load-word-requires-clause-table : goal.load-word-requires-clause-table
load-word-requires-clause-table g c =
    c.requires.table.table_is ∙ sym (ap (λ b. b.table_id) c.self.view_is)

pub load-word-requires-clause-within : goal.load-word-requires-clause-within
load-word-requires-clause-within g c =
    let counts = c.self.invariant.2 in
    omega (arith, counts)

pub load-word-requires-clause-allows : goal.load-word-requires-clause-allows
load-word-requires-clause-allows g c =
    looks_allowed g.P.Cargo c.self.inside.table.key _ c.args.seat.now.id 0
    c.args.seat.now.me.0 c.args.seat.now.me.1 c.requires.table.seated.itself

pub returns-clause-stays : goal.returns-clause-stays
returns-clause-stays g c =
    hand-logged c.args.self.now c.args.seat.now c.load-word.new.hand c.requires.table (c.load-word.ensures.0, c.load-word.ensures.1)
    0 c.load-word.result c.load-word.ensures.2.rest

pub returns-clause-read : goal.returns-clause-read
returns-clause-read g c =
    record { word = c.load-word.result; answer_is = c.read_scope.ensures; me_is = c.load-word.ensures.2.rest }
