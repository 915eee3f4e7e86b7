use Rattle.std.proofs.Common.{◌≡◌, ◌++◌, map, drop}
use Rattle.plan_notation.specs.Assembled.{later_items_text}
use Rattle.plan_notation.proofs.joined.put_later.Given as goal

-- what was added, and then the pieces that are left
abbrev pub invariant-pieces : goal.invariant-pieces
invariant-pieces l =
    l.text.items ++ later_items_text (map (λ piece. piece.items) (drop l.piece-index l.pieces))
    ≡ l.initial.text.items ++ later_items_text (map (λ piece. piece.items) l.pieces)
