use Rattle.std.proofs.Common.{ℕ, Some, None, Result, subst, sym, ap, ◌∙◌}
use Rattle.trace_text.specs.Reading.{Lines, Opened, is_within, header_text, IsFaultOf}
use Rattle.trace_text.specs.Words.{Halves, header_in}
use Rattle.trace_text.proofs.ReadLaws.{lines_in-cut, said-good, opening-none, opening-read, tree-fault, opened}
use Rattle.trace_text.proofs.read_opening.read_opening.Goals as goal

pub returns-in_default : goal.returns-in_default
returns-in_default c = opening-none c.args.lines.now.rest.now c.in_default.ensures

pub returns-in_default-read : goal.returns-in_default-read
returns-in_default-read c =
    opening-read c.args.lines.now.rest.now _ None c.in-Some.ensures (sym c.in_default-read.is ∙ c.in-Ok.ensures)

pub open-requires-clause-within : goal.open-requires-clause-within
open-requires-clause-within c =
    said-good header_text is_within (header_in c.in-Some.line.now) c.in-Some.line.now c.in-Some-read.header (sym c.in-Ok.ensures ∙ c.in-Some-read.is)

pub returns-in-Err : goal.returns-in-Err
returns-in-Err c =
    let old = c.args.lines.now.rest.now in
    let h : Halves = record { front = c.in-Some.line.now; rest = c.next_line.new.self.rest.now } in
    let read = opening-read old h (Some c.in-Some-read.header) c.in-Some.ensures (sym c.in-Some-read.is ∙ c.in-Ok.ensures) in
    subst (λ (r : Result Opened ℕ). IsFaultOf r c.in-Err.fault) (sym read) (tree-fault c.in-Some-read.header _ c.in-Err.fault c.in-Err.ensures.read)

pub returns-in-Ok-read_nodes : goal.returns-in-Ok-read_nodes
returns-in-Ok-read_nodes c =
    let old = c.args.lines.now.rest.now in
    let h : Halves = record { front = c.in-Some.line.now; rest = c.next_line.new.self.rest.now } in
    let read = opening-read old h (Some c.in-Some-read.header) c.in-Some.ensures (sym c.in-Some-read.is ∙ c.in-Ok.ensures) in
    let left = sym (ap (λ (l : Lines). l.rest) (lines_in-cut old h c.in-Some.ensures)) in
    opened old h.rest c.read_nodes.new.lines.rest.now c.in-Some-read.header c.in-Ok-read_nodes.nodes.items c.open.result read left c.in-Ok-read_nodes.ensures.read c.open.ensures
