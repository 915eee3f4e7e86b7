use Rattle.std.proofs.Common.{[], false, sym, ◌∙◌, subst}
use Rattle.record_loop.specs.Printing.{Wrote}
use Rattle.record_loop.proofs.PrintingLaws.{Wrote-hands, AtLeast-nil}
use Rattle.record_loop.proofs.printer.Printer.hand_on.Goals as goal

pub returns-then-is_err-clause-wrote : goal.returns-then-is_err-clause-wrote
returns-then-is_err-clause-wrote g c = λ text start wrote.
    let view = g.K.Sink.told in
    let was : Wrote text start (view c.args.out.now) c.args.self.now.due false =
    subst (Wrote text start (view c.args.out.now) c.args.self.now.due) c.if-self.false wrote in
    subst (Wrote text start (view c.finish.new.self) false) (sym c.is_err.ensures.value ∙ c.if-is_err.true)
    (Wrote-hands (view c.finish.new.self) c.finish.result was c.finish.ensures.written c.finish.ensures.handed_on c.finish.ensures.cause)

pub returns-else-is_err-clause-wrote : goal.returns-else-is_err-clause-wrote
returns-else-is_err-clause-wrote g c = λ text start wrote.
    let view = g.K.Sink.told in
    let was : Wrote text start (view c.args.out.now) c.args.self.now.due false =
    subst (Wrote text start (view c.args.out.now) c.args.self.now.due) c.if-self.false wrote in
    subst (Wrote text start (view c.finish.new.self) false) (sym c.is_err.ensures.value ∙ c.if-is_err.false ∙ sym c.if-self.false)
    (Wrote-hands (view c.finish.new.self) c.finish.result was c.finish.ensures.written c.finish.ensures.handed_on c.finish.ensures.cause)

pub returns-then-self-clause-grows : goal.returns-then-self-clause-grows
returns-then-self-clause-grows g c = AtLeast-nil (g.K.Sink.told c.args.out.now).written

pub returns-then-not-self-clause-grows : goal.returns-then-not-self-clause-grows
returns-then-not-self-clause-grows g c = AtLeast-nil (g.K.Sink.told c.args.out.now).written

pub returns-then-is_err-clause-grows : goal.returns-then-is_err-clause-grows
returns-then-is_err-clause-grows g c = record { more = []; grown = c.finish.ensures.written }

pub returns-else-is_err-clause-grows : goal.returns-else-is_err-clause-grows
returns-else-is_err-clause-grows g c = record { more = []; grown = c.finish.ensures.written }
