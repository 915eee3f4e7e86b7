use Rattle.std.proofs.Common.{ℕ, ◌+◌, [], length, Ok, Result, subst, sym, ap, ◌∙◌}
use Rattle.trace_text.specs.Texts.{entry_text}
use Rattle.trace_text.specs.Values.{has_entry}
use Rattle.trace_text.specs.Words.{entry_in}
use Rattle.trace_text.specs.Reading.{lines_in, opening_of, entry_of, trace_with, trace_in, with_entries, IsFaultOf}
use Rattle.trace_text.proofs.ReadLaws.{entries_in, whole-fault, entries-fault, entries-good, whole-open}
use Rattle.trace_text.proofs.reading.read_whole_trace.Goals as goal

pub returns-in-Err : goal.returns-in-Err
unfolding trace_in
returns-in-Err c = whole-fault entry_of trace_with (lines_in c.args.bytes.now).rest (opening_of (lines_in c.args.bytes.now).ended) c.in-Err.fault c.in-Err.ensures

pub returns-in-Err-read_all : goal.returns-in-Err-read_all
unfolding trace_in
returns-in-Err-read_all c =
    let o = c.in-Ok.opening in
    let read = whole-open entry_of trace_with c.args.bytes.now c.read_opening.new.lines.rest.now o c.in-Ok.ensures in
    subst (λ (r : Result _ ℕ). IsFaultOf r c.in-Err-read_all.fault) (sym read)
    (entries-fault trace_with o (entries_in (entry_of o) (length o.nodes + 2) c.read_opening.new.lines.rest.now []) c.in-Err-read_all.fault c.in-Err-read_all.ensures.read)

pub returns-in-Ok-read_all : goal.returns-in-Ok-read_all
unfolding trace_in
returns-in-Ok-read_all c =
    let o = c.in-Ok.opening in
    whole-open entry_of trace_with c.args.bytes.now c.read_opening.new.lines.rest.now o c.in-Ok.ensures
    ∙ ap (with_entries trace_with o) c.in-Ok-read_all.ensures.read
    ∙ ap (λ v. Ok v) (sym c.new.ensures)

pub new-requires-clause-each : goal.new-requires-clause-each
new-requires-clause-each c =
    let o = c.in-Ok.opening in
    entries-good entry_text (has_entry o) entry_in (length o.nodes + 2) c.read_opening.new.lines.rest.now c.in-Ok-read_all.entries.items
    c.in-Ok-read_all.ensures.read
