use Rattle.std.proofs.Common.{ap, ◌∙◌, ◌++◌, List, ℕ}
use Rattle.trace_text.specs.declared.entry.Entry.{Entry}
use Rattle.trace_text.specs.Texts.{setup_text, lines, entry_text, trace_text}
use Rattle.trace_text.proofs.Added.{adds_same, adds_join}
use Rattle.trace_text.proofs.writing.write_trace.Goals as goal

pub returns : goal.returns
returns c =
    (adds_join (adds_same (ap setup_text c.opening.ensures.opening) c.in_ok-put_opening.ensures)
    (adds_same (ap (λ (es : List Entry). lines entry_text es) c.entries.ensures) c.in_ok-put_entries.ensures)).added
    ∙ ap (λ (l : List ℕ). l ++ trace_text c.args.trace.now) c.new-out.ensures.items
