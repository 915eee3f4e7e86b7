use Rattle.std.proofs.Common.{List, ℕ, subst}
use Rattle.exec_io.specs.Writing.{Puts}
use Rattle.line_summary.proofs.SummaryLaws.{summary-text}
use Rattle.line_summary.proofs.line.put_summary.Goals as goal

pub returns : goal.returns
returns g c = λ outcomes counted.
    let P : List ℕ → Type 0 = λ text. Puts (g.K.Sink.told c.args.sink.now) (g.K.Sink.told c.put_text.new.sink) c.put_text.result text in
    subst P (summary-text c.args.summary.now outcomes counted) c.put_text.ensures
