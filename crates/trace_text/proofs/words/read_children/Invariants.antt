use Rattle.std.proofs.Common.{◌≡◌, map, Some}
use Rattle.trace_text.specs.Words.{numbers_in}
use Rattle.trace_text.proofs.words.read_children.Given as goal

abbrev pub invariant-loop-part : goal.invariant-loop-part
invariant-loop-part l = numbers_in (map (λ part. part.now) l.yielded) ≡ Some l.children.items
