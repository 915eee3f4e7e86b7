use Rattle.std.proofs.Common.{◌≡◌, drop}
use Rattle.plan_words.specs.Cutting.{cut}
use Rattle.plan_words.proofs.cutter.tokens_of.Given as goal

-- where the cutter stands after the bytes that were passed
abbrev pub invariant-bytes : goal.invariant-bytes
invariant-bytes l = cut l.at (drop l.at l.text) l.cutter ≡ cut 0 l.text l.initial.cutter
