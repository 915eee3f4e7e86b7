use Rattle.exec_io.proofs.PutsLemmas.{Puts-then}
use Rattle.outcome_lines.proofs.line.put_completion.Goals as goal

pub returns-in_ok-put_bytes-in-Value : goal.returns-in_ok-put_bytes-in-Value
returns-in_ok-put_bytes-in-Value g c =
    let put = rw c.as_slice.ensures.data at c.put_values.ensures in
    rw c.in-Value.is (Puts-then c.in_ok-put_bytes-in-Value.ensures put)

pub returns-in_ok-put_bytes-in-Error : goal.returns-in_ok-put_bytes-in-Error
returns-in_ok-put_bytes-in-Error g c =
    let put = rw c.as_bytes.ensures.bytes at c.put_bytes-in-Error-2.ensures in
    rw c.in-Error.is (Puts-then c.in_ok-put_bytes-in-Error.ensures put)
