use Rattle.std.proofs.Common.{sym, ◌∙◌, subst}
use Rattle.line_summary.specs.Counting.{Summarizes}
use Rattle.record_loop.specs.Printing.{text_of}
use Rattle.record_loop.proofs.PrintingLaws.{Wrote-settled, AtLeast-then}
use Rattle.record_loop.proofs.printer.Printer.finish.Goals as goal

pub returns-clause-finished : goal.returns-clause-finished
returns-clause-finished g c = λ form start outcomes printed. record {
  counted = subst (λ s. Summarizes s outcomes) (sym (c.hand_on.ensures.summary ∙ c.put_rest.ensures.summary)) printed.counted;
  wrote = Wrote-settled c.hand_on.ensures.settled (c.hand_on.ensures.wrote (text_of form outcomes) start (c.put_rest.ensures.wrote form start outcomes printed));
}

pub returns-clause-grows : goal.returns-clause-grows
returns-clause-grows g c = λ form start outcomes printed. AtLeast-then (c.put_rest.ensures.grows form start outcomes printed) c.hand_on.ensures.grows
