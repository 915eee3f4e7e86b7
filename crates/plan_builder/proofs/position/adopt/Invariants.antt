use Rattle.std.proofs.Common.{◌≡◌, ℕ, ◌<◌, length, get_or, take}
use Rattle.plan_builder.specs.declared.position.Position.{Position}
use Rattle.plan_builder.specs.Positions.{adopted}
use Rattle.plan_builder.proofs.position.adopt.Given as goal

abbrev pub invariant-loop-child : goal.invariant-loop-child
invariant-loop-child l = (n : ℕ) (d : Position) → n < length l.positions →
    get_or l.positions n d ≡ adopted (take l.child-index l.children) l.parent n (get_or l.fn.positions n d)
