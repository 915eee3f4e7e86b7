use Rattle.trace_text.proofs.RoundTrip.{trace-back}
use Rattle.trace_text.proofs.law.texts_are_read_back.Goals as goal

pub returns : goal.returns
returns c = trace-back
