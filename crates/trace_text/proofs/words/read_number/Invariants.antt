use Rattle.std.proofs.Common.{◌≡◌, drop}
use Rattle.trace_text.specs.Words.{number_from}
use Rattle.trace_text.proofs.words.read_number.Given as goal

abbrev pub invariant-loop-byte : goal.invariant-loop-byte
invariant-loop-byte l = number_from l.number (drop l.byte-index l.bytes) ≡ number_from 0 l.bytes
