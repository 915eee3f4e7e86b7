use Rattle.std.proofs.Common.{◌≡◌, ◌+◌, vec_len}
use Rattle.sleepers.specs.Places.{HavePlaces}
use Rattle.sleepers.proofs.opening.open.Given as goal

abbrev pub invariant-loop-made : goal.invariant-loop-made
invariant-loop-made l = vec_len l.parkers ≡ l._made

abbrev pub invariant-loop-place : goal.invariant-loop-place
invariant-loop-place l =
    record {
      left : vec_len l.parkers + l.place ≡ l.fn.hands;
      places : HavePlaces l.place l.sleepers.items;
    }
