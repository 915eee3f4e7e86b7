use Rattle.pictures.proofs.Joining.{Adds-then, Adds-same}
use Rattle.trace_reasons.proofs.sentence.put_scope_word.Goals as goal

pub returns : goal.returns
returns c =
    Adds-then c.in_ok-put.ensures
    (Adds-then c.in_ok-put_scope.ensures (Adds-same c.scope_reading.ensures c.in_ok-put-2.ensures))
