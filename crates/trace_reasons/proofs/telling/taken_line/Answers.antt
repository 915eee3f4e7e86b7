use Rattle.std.proofs.Common.{[], ap, ◌∙◌}
use Rattle.pictures.proofs.Joining.{Adds-then, Adds-same}
use Rattle.trace_reasons.specs.Open.{open_text}
use Rattle.trace_reasons.specs.Sentences.{between}
use Rattle.trace_reasons.proofs.telling.taken_line.Goals as goal

pub returns : goal.returns
returns c =
    let found = rw c.new-all.ensures.items at c.in_ok-put_marks.ensures.added in
    let word = Adds-same (ap (between [] c.args.count) c.entries_word.ensures) c.in_ok-put_between.ensures in
    let open_all = Adds-same (ap open_text (c.deref.ensures.value ∙ found)) c.in_ok-put_open.ensures in
    let whole = Adds-then word (Adds-then open_all c.in_ok-put.ensures) in
    rw c.new-text.ensures.items at whole.added
