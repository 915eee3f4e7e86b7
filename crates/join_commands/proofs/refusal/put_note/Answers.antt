use Rattle.std.proofs.Common.{codes}
use Rattle.exec_io.proofs.PutsLemmas.{Puts-then, Puts-stop}
use Rattle.join_commands.specs.Notes.{part_cause_text}
use Rattle.join_commands.proofs.NoteLaws.{one}
use Rattle.join_commands.proofs.refusal.put_note.Goals as goal

pub returns-in_err-put_bytes : goal.returns-in_err-put_bytes
returns-in_err-put_bytes g c = Puts-stop _ c.from_residual.ensures.0 c.in_err-put_bytes.ensures

pub returns-in_err-put_bytes-2 : goal.returns-in_err-put_bytes-2
returns-in_err-put_bytes-2 g c =
    one (codes "refused: ") (part_cause_text c.args.names.now c.args.name.now c.args.cause.now) c.as_bytes.result.now c.args.name.now c.as_bytes.ensures.value
    (Puts-then c.in_ok-put_bytes.ensures (Puts-stop _ c.from_residual-in_err-put_bytes-2.ensures.0 c.in_err-put_bytes-2.ensures))

pub returns : goal.returns
returns g c =
    one (codes "refused: ") (part_cause_text c.args.names.now c.args.name.now c.args.cause.now) c.as_bytes.result.now c.args.name.now c.as_bytes.ensures.value
    (Puts-then c.in_ok-put_bytes.ensures (Puts-then c.in_ok-put_bytes-2.ensures c.put_cause.ensures))
