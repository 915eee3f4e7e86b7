use Rattle.std.proofs.Common.{eqb-true, sym, ◌∙◌, arith}
use Rattle.run_loop.proofs.listing.room_of.Goals as goal

pub returns-then-is_empty-clause-all : goal.returns-then-is_empty-clause-all
returns-then-is_empty-clause-all c some =
    let none = eqb-true _ 0 (sym c.is_empty.ensures ∙ c.if-is_empty.true) in
    absurd (omega (arith, none, some))
