use Rattle.std.proofs.Common.{◌≡◌, length, take}
use Rattle.std.specs.Prelude.{max}
use Rattle.std.specs.List.{fold, range_with_len}
use Rattle.pictures.specs.Traces.Picture.{shown_length}
use Rattle.pictures.proofs.traces.picture.longest.Given as goal

abbrev pub invariant-loop-number : goal.invariant-loop-number
invariant-loop-number l =
    l.most ≡ fold (λ most n. max (shown_length l.frame l.entries n) most) 0 (take l.number (range_with_len 0 (length l.entries)))
