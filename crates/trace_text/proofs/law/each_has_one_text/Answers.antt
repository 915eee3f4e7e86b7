use Rattle.trace_text.proofs.OneText.{trace-text, schedule-text}
use Rattle.trace_text.proofs.law.each_has_one_text.Goals as goal

pub returns-clause-traces : goal.returns-clause-traces
returns-clause-traces c = trace-text

pub returns-clause-schedules : goal.returns-clause-schedules
returns-clause-schedules c = schedule-text
