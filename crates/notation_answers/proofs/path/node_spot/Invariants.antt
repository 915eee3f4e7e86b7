use Rattle.std.proofs.Common.{◌≡◌, ◌-◌, length}
use Rattle.notation_answers.specs.Paths.{node_on_path}
use Rattle.notation_answers.proofs.path.node_spot.Given as goal

-- what is left of the path leads where all of it leads
abbrev pub invariant-steps : goal.invariant-steps
invariant-steps l =
    node_on_path (length l.path - l._count) l.read.spots l.rest l.number
    ≡ node_on_path (length l.path) l.read.spots l.path (length l.read.spots - 1)
