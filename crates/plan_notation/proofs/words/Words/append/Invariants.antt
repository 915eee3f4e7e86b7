use Rattle.std.proofs.Common.{◌≡◌, ◌++◌, map, drop}
use Rattle.plan_notation.proofs.words.Words.append.Given as goal

-- what was added, and then the tokens that are left
abbrev pub invariant-pieces : goal.invariant-pieces
invariant-pieces l =
    l.self ++ map (λ piece. piece.items) (drop l.piece-index l.piece-items)
    ≡ l.initial.self ++ map (λ piece. piece.items) l.piece-items
