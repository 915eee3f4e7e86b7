use Rattle.std.proofs.Common.{refl, sym, ◌∙◌, inl, inr}
use Rattle.record_loop.proofs.PrintingLaws.{Printed-rest, Printed-summary, AtLeast-nil, AtLeast-front}
use Rattle.record_loop.proofs.printer.Printer.put_rest.Goals as goal

pub returns-then-self-clause-wrote : goal.returns-then-self-clause-wrote
returns-then-self-clause-wrote g c = λ form start outcomes printed. Printed-rest printed (inl c.if-self.true)

pub returns-then-has_lines-clause-wrote : goal.returns-then-has_lines-clause-wrote
returns-then-has_lines-clause-wrote g c = λ form start outcomes printed. Printed-rest printed (inr (c.has_lines.ensures.yes c.if-has_lines.true))

pub returns-then-is_err-clause-wrote : goal.returns-then-is_err-clause-wrote
returns-then-is_err-clause-wrote g c = λ form start outcomes printed.
    Printed-summary printed (c.has_lines.ensures.no c.if-has_lines.false) c.if-self.false
    (c.put_summary.ensures outcomes printed.counted) refl (sym (sym c.is_err.ensures.value ∙ c.if-is_err.true))

pub returns-else-is_err-clause-wrote : goal.returns-else-is_err-clause-wrote
returns-else-is_err-clause-wrote g c = λ form start outcomes printed.
    Printed-summary printed (c.has_lines.ensures.no c.if-has_lines.false) c.if-self.false
    (c.put_summary.ensures outcomes printed.counted) refl (c.if-self.false ∙ sym (sym c.is_err.ensures.value ∙ c.if-is_err.false))

pub returns-then-self-clause-grows : goal.returns-then-self-clause-grows
returns-then-self-clause-grows g c = λ form start outcomes printed. AtLeast-nil (g.K.Sink.told c.args.out.now).written

pub returns-then-has_lines-clause-grows : goal.returns-then-has_lines-clause-grows
returns-then-has_lines-clause-grows g c = λ form start outcomes printed. AtLeast-nil (g.K.Sink.told c.args.out.now).written

pub returns-then-is_err-clause-grows : goal.returns-then-is_err-clause-grows
returns-then-is_err-clause-grows g c = λ form start outcomes printed. AtLeast-front (c.put_summary.ensures outcomes printed.counted).part

pub returns-else-is_err-clause-grows : goal.returns-else-is_err-clause-grows
returns-else-is_err-clause-grows g c = λ form start outcomes printed. AtLeast-front (c.put_summary.ensures outcomes printed.counted).part
