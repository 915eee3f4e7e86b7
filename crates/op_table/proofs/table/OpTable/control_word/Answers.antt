use Rattle.std.proofs.Common.{arith, sym, ap, ◌∙◌}
use Rattle.table_words.specs.Layouts.{OfControl, index}
use Rattle.table_steps.specs.Claims.{logged}
use Rattle.table_hands_kept.proofs.Hands.{hand-logged}
use Rattle.table_kept.proofs.Loads.{looks_allowed}
use Rattle.op_table.proofs.table.OpTable.control_word.Goals as goal

pub load-requires-clause-table : goal.load-requires-clause-table
load-requires-clause-table g c =
    c.requires.table.table_is ∙ sym (ap (λ b. b.table_id) c.self.view_is)

pub load-requires-clause-within : goal.load-requires-clause-within
load-requires-clause-within g c =
    let counts = c.self.invariant.2 in
    let within = c.control-index.ensures.within in
    omega (arith, counts, within)

pub load-requires-clause-allows : goal.load-requires-clause-allows
load-requires-clause-allows g c =
    looks_allowed g.P.Cargo c.self.inside.table.key _ c.args.seat.now.id c.control-index.result
    c.args.seat.now.me.0 c.args.seat.now.me.1 c.requires.table.seated.itself

pub returns-clause-stays : goal.returns-clause-stays
returns-clause-stays g c =
    hand-logged c.args.self.now c.args.seat.now c.load.new.hand c.requires.table
    (c.load.ensures.0, c.load.ensures.1) c.control-index.result c.load.result c.load.ensures.2.rest

pub returns-clause-read : goal.returns-clause-read
returns-clause-read g c =
    let m = c.args.seat.now.me in
    c.load.ensures.2.rest
    ∙ ap (λ i. (logged i c.load.result m.0, m.1))
    (c.control-index.ensures.value
    ∙ ap (λ b. index b.frame.layout (OfControl c.args.block c.args.node)) c.self.view_is)
