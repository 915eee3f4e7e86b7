use Rattle.std.proofs.Common.{◌≡◌, drop}
use Rattle.plan_notation.specs.Reading.{run_tokens}
use Rattle.plan_notation.proofs.reading.run.Given as goal

-- the tokens that are left lead where all lead
abbrev pub invariant-tokens : goal.invariant-tokens
invariant-tokens l = run_tokens (drop l.token-index l.tokens) l.machine ≡ run_tokens l.tokens l.initial.machine
