use Rattle.std.proofs.Common.{refl, sym, ◌∙◌, inl, inr}
use Rattle.record_loop.proofs.PrintingLaws.{Printed-counts, Printed-line, AtLeast-nil, AtLeast-front}
use Rattle.record_loop.proofs.printer.Printer.print.Goals as goal

pub returns-then-self-clause-prints : goal.returns-then-self-clause-prints
returns-then-self-clause-prints g c = λ form start outcomes printed.
    Printed-counts c.args.outcome.now printed (c.count.ensures.counts outcomes printed.counted) (inl c.if-self.true) refl refl refl

pub returns-then-not-has_lines-clause-prints : goal.returns-then-not-has_lines-clause-prints
returns-then-not-has_lines-clause-prints g c = λ form start outcomes printed.
    Printed-counts c.args.outcome.now printed (c.count.ensures.counts outcomes printed.counted) (inr (c.has_lines.ensures.no c.if-not-has_lines.true)) refl refl refl

pub returns-then-is_err-clause-prints : goal.returns-then-is_err-clause-prints
returns-then-is_err-clause-prints g c = λ form start outcomes printed.
    Printed-line c.args.outcome.now _ printed (c.count.ensures.counts outcomes printed.counted)
    (c.has_lines.ensures.yes c.if-not-has_lines.false) c.if-self.false (c.from.ensures ∙ c.lines.ensures ∙ c.count.ensures.lines) c.put_line.ensures refl refl (sym (sym c.is_err.ensures.value ∙ c.if-is_err.true))

pub returns-else-is_err-clause-prints : goal.returns-else-is_err-clause-prints
returns-else-is_err-clause-prints g c = λ form start outcomes printed.
    Printed-line c.args.outcome.now _ printed (c.count.ensures.counts outcomes printed.counted)
    (c.has_lines.ensures.yes c.if-not-has_lines.false) c.if-self.false (c.from.ensures ∙ c.lines.ensures ∙ c.count.ensures.lines) c.put_line.ensures refl refl (c.if-self.false ∙ sym (sym c.is_err.ensures.value ∙ c.if-is_err.false))

pub returns-then-self-clause-grows : goal.returns-then-self-clause-grows
returns-then-self-clause-grows g c = AtLeast-nil (g.K.Sink.told c.args.out.now).written

pub returns-then-not-has_lines-clause-grows : goal.returns-then-not-has_lines-clause-grows
returns-then-not-has_lines-clause-grows g c = AtLeast-nil (g.K.Sink.told c.args.out.now).written

pub returns-then-is_err-clause-grows : goal.returns-then-is_err-clause-grows
returns-then-is_err-clause-grows g c = AtLeast-front c.put_line.ensures.part

pub returns-else-is_err-clause-grows : goal.returns-else-is_err-clause-grows
returns-else-is_err-clause-grows g c = AtLeast-front c.put_line.ensures.part
