use Rattle.std.proofs.Common.{◌≡◌, ◌++◌, map, drop}
use Rattle.plan_notation.proofs.words.Words.put_all.Given as goal

-- what was added, and then the words that are left
abbrev pub invariant-names : goal.invariant-names
invariant-names l =
    l.self ++ map (λ name. name.now) (drop l.name-index l.names)
    ≡ l.initial.self ++ map (λ name. name.now) l.names
