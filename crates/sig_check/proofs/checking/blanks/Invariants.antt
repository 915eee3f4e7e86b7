use Rattle.std.proofs.Common.{◌≡◌, None, replicate}
use Rattle.sig_check.proofs.checking.blanks.Given as goal

abbrev pub invariant-loop : goal.invariant-loop
invariant-loop l = l.findings.items ≡ replicate l.counter None
