use Rattle.std.proofs.Common.{sym, subst}
use Rattle.exec_io.specs.Shelves.{Gives}
use Rattle.exec_status.proofs.Missing.{shelf-miss, reads-bytes, reads-fault}
use Rattle.trace_text.specs.declared.limits.TheConstants.{FILE_BYTES}
use Rattle.trace_commands.specs.Refusals.{HasRefusal}
use Rattle.trace_commands.proofs.Bytes.{answer-of, miss-of}
use Rattle.picture_commands.specs.declared.answer.Answer.{Answer}
use Rattle.picture_commands.specs.Answers.{status_of, the_trace}
use Rattle.picture_commands.proofs.trace_answer.trace_answer.Goals as goal

pub returns-in-Ok-clause-answer : goal.returns-in-Ok-clause-answer
returns-in-Ok-clause-answer g c =
    let texts = (g.F.Shelf.told c.args.shelf.now).texts in
    let given = subst (Gives FILE_BYTES texts c.args.name.now) (sym c.deref.ensures.value) c.in-Ok.ensures.given in
    answer-of (the_trace c.args.rows) texts c.args.name.now c.deref.result.now given (λ (answer : Answer). status_of answer.drawn) (λ (answer : Answer). answer.text.items) c.trace_drawn.result c.trace_drawn.ensures.answer

pub returns-in-Ok-clause-fault : goal.returns-in-Ok-clause-fault
returns-in-Ok-clause-fault g c =
    let texts = (g.F.Shelf.told c.args.shelf.now).texts in
    let given = subst (Gives FILE_BYTES texts c.args.name.now) (sym c.deref.ensures.value) c.in-Ok.ensures.given in
    miss-of (the_trace c.args.rows) texts c.args.name.now c.deref.result.now given c.trace_drawn.result c.trace_drawn.ensures.fault

pub returns-in-Ok-clause-reads : goal.returns-in-Ok-clause-reads
returns-in-Ok-clause-reads g c =
    reads-bytes c.in-Ok.bytes ((the_trace c.args.rows).refuses c.deref.result.now) c.trace_drawn.result c.in-Ok.ensures.reads c.trace_drawn.ensures.fault

pub returns-in-Err-clause-reads : goal.returns-in-Err-clause-reads
returns-in-Err-clause-reads g c = reads-fault c.in-Err.fault c.in-Err.ensures.reads

pub returns-in-Err-clause-fault : goal.returns-in-Err-clause-fault
returns-in-Err-clause-fault g c =
    shelf-miss (HasRefusal (the_trace c.args.rows) (g.F.Shelf.told c.args.shelf.now).texts c.args.name.now) c.in-Err.fault c.in-Err.ensures.fault
