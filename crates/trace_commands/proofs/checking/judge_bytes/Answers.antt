use Rattle.std.proofs.Common.{Ok, refl, ap}
use Rattle.replay_core.specs.declared.check.Verdict.{Verdict}
use Rattle.trace_commands.proofs.checking.judge_bytes.Goals as goal

pub returns-in-Ok-check_trace-clause-answer : goal.returns-in-Ok-check_trace-clause-answer
returns-in-Ok-check_trace-clause-answer c = record {
  short = c.in-Ok.ensures.short;
  trace = c.in-Ok.trace;
  read = c.in-Ok.ensures.ok;
  verdict = c.in-Ok-check_trace.verdict;
  is = c.in-Ok-check_trace.ensures.verdict;
  sound = λ n e. c.in-Ok-check_trace.ensures.sound n (ap (λ (v : Verdict). Ok v) e);
  status_is = refl;
  text_is = refl;
}
